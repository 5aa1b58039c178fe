use Rattle.net_picture.proofs.Back.{met_is_path}
use Rattle.net_picture.proofs.Into.{into}
use Rattle.net_picture.proofs.Read.{edges_said, graph_read}
use Rattle.net_picture.proofs.Reading.{comment_read}
use Rattle.net_picture.proofs.laws.graph_laws.Goals as goal

pub returns-clause-sources : goal.returns-clause-sources
returns-clause-sources c net to = into net to

pub returns-clause-edges : goal.returns-clause-edges
returns-clause-edges c net holds marked = edges_said net holds marked

pub returns-clause-read : goal.returns-clause-read
returns-clause-read c net holds marked n = graph_read net holds marked n

pub returns-clause-comment : goal.returns-clause-comment
returns-clause-comment c comment text free = comment_read comment text free

pub returns-clause-path : goal.returns-clause-path
returns-clause-path c net holds = met_is_path net holds
