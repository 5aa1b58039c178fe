use Rattle.bench_file.proofs.Arranging.{fitted_models_fit}
use Rattle.bench_file.proofs.laws.fitted_models_fit.Goals as goal

pub returns : goal.returns
returns c = fitted_models_fit
