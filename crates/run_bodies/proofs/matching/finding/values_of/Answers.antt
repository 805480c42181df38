use Rattle.run_purpose.specs.declared.item.Item.TheVariants.{Whole, Group}
use Rattle.run_bodies.specs.RunStores.{work_of_run}
use Rattle.run_bodies.proofs.Finding.{are_found, are_copied, found_for}
use Rattle.run_bodies.proofs.matching.finding.values_of.Goals as goal

pub returns-in-Group : goal.returns-in-Group
returns-in-Group c =
    let w = work_of_run c.args.run.now in
    found_for w (Group c.in-Group.group) c.args.item c.group_values.result c.in-Group.is (are_found w (Group c.in-Group.group) c.group_values.result c.group_values.ensures.values c.group_values.ensures.kept)

pub returns-in-Some : goal.returns-in-Some
returns-in-Some c =
    let w = work_of_run c.args.run.now in
    found_for w (Whole c.in-Whole.task) c.args.item c.to_vec.result c.in-Whole.is (are_copied w (Whole c.in-Whole.task) _ (λ x y same. same) c.to_vec.result c.in-Some.values.now c.in-Some.ensures c.to_vec.ensures.ok)

pub returns-in-None : goal.returns-in-None
returns-in-None c =
    let w = work_of_run c.args.run.now in
    found_for w (Whole c.in-Whole.task) c.args.item c.whole_values.result c.in-Whole.is (are_found w (Whole c.in-Whole.task) c.whole_values.result c.whole_values.ensures.values c.whole_values.ensures.kept)
