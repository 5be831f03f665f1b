use Rattle.tsb_check.proofs.reading.count_current.Goals as goal

pub returns-in-Err-clause-refused : goal.returns-in-Err-clause-refused
returns-in-Err-clause-refused g c = c.refusal_of.ensures.refused (g.P.Pages.down c.args.pages.now)
