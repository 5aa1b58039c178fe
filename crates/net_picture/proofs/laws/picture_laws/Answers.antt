use Rattle.net_picture.specs.Plan.{has_path, plan_of}
use Rattle.net_picture.proofs.Areas.{form_apart}
use Rattle.net_picture.proofs.Coloured.{funnels, marked, rows, unmarked}
use Rattle.net_picture.proofs.Lining.{lines, unlined}
use Rattle.net_picture.proofs.Outlining.{outlines}
use Rattle.net_picture.proofs.Whole.{whole}
use Rattle.net_picture.proofs.laws.picture_laws.Goals as goal

pub returns-clause-whole : goal.returns-clause-whole
returns-clause-whole c net form holds d = whole net form holds d

pub returns-clause-apart : goal.returns-clause-apart
returns-clause-apart c net form holds = form_apart (plan_of net holds) (has_path net holds) form

pub returns-clause-marked : goal.returns-clause-marked
returns-clause-marked c net form holds registers d e = marked net form holds d registers e

pub returns-clause-line : goal.returns-clause-line
returns-clause-line c net form holds registers d e = lines net form holds registers d e

pub returns-clause-pathless : goal.returns-clause-pathless
returns-clause-pathless c net form holds none = (unmarked net form holds none, unlined net form holds none)

pub returns-clause-funnels : goal.returns-clause-funnels
returns-clause-funnels c net form holds m d less = funnels net form holds m d less

pub returns-clause-rows : goal.returns-clause-rows
returns-clause-rows c net form holds m q d less there = rows net form holds m q d less there

pub returns-clause-outline : goal.returns-clause-outline
returns-clause-outline c net form one other = outlines net form one other
