use Rattle.thread_tests.proofs.Following.{follows_more, follows_none}
use Rattle.thread_tests.proofs.playing.reply_all.Goals as goal

pub loop-work-init : goal.loop-work-init
loop-work-init g c = λ named. follows_none c.args.works.now c.new-returned.result.items c.args.pass.now c.new-returned.ensures.items

pub loop-work-preserved : goal.loop-work-preserved
loop-work-preserved g c = λ named.
    follows_more c.args.works.now c.loop-work.work-index c.work-item.result c.loop-work.returned.items c.push.new.self.items c.reply_to-reply.result c.args.pass.now c.loop-work.pass c.reply_to-reply.new.pass
    c.loop-work-test.true c.work-item.is c.in-Ok.ensures.items (c.loop-work.invariant named) (c.reply_to-reply.ensures.replied named)
