use Rattle.tsb_tree.proofs.descent.+plan_under.Given as goal

abbrev pub decreases-plan_under : goal.decreases-plan_under
decreases-plan_under g l = l.place.now.level
