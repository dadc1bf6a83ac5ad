use Rattle.ecf_faults.specs.Declarations.{faults_of_tree, numbered_form}
use Rattle.ecf_typing.proofs.OutcomeLaws.{accepted, refused}
use Rattle.ecf_typing.proofs.file.check.Goals as goal

pub returns-in-None : goal.returns-in-None
returns-in-None c = accepted c.least_is_left.ensures.none (faults_of_tree c.args.tree.now) (numbered_form c.args.tree.now) _ _ c.in-Ok.ensures.faults c.in-None.is c.in-Ok.ensures.form

pub returns-in-Some : goal.returns-in-Some
returns-in-Some c = refused c.least_is_left.ensures.some (faults_of_tree c.args.tree.now) c.in-Some.first _ c.in-Ok.ensures.faults c.in-Some.is
