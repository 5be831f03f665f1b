use Rattle.std.proofs.Common.{inr}
use Rattle.web.proofs.replying.reply_to_line.Goals as goal

pub returns-in-Ok-reply_metered-clause-replied : goal.returns-in-Ok-reply_metered-clause-replied
returns-in-Ok-reply_metered-clause-replied g c = (c.in-Ok.request, record { asks = c.in-Ok.ensures.found; time_is = c.time_of-time.ensures.time; replied = c.in-Ok-reply_metered.ensures.replied })

pub returns-in-Err-reply_metered-clause-refused : goal.returns-in-Err-reply_metered-clause-refused
returns-in-Err-reply_metered-clause-refused g c = inr (c.in-Ok.request, record { asks = c.in-Ok.ensures.found; refused = c.in-Err-reply_metered.ensures.refused })
