use Rattle.std.proofs.Common.{◌≡◌, List, ℕ, string_bytes, subst}
use Rattle.service.specs.Replies.{IsAskEnd}
use Rattle.service.proofs.running.ask_line.Goals as goal

pub returns-clause-ended : goal.returns-clause-ended
returns-clause-ended g c = λ h represented.
    let line : c.as_str.result.now ≡ string_bytes c.args.asked.now.line = cc in
    record {
      answered = c.ask-answered.result;
      answered_to = c.ask-answered.new.out;
      answered_err = c.ask-answered.new.err;
      answer = subst (λ (t : List ℕ). IsAskEnd h t c.ask-answered.result c.args.out.now c.ask-answered.new.out c.args.err.now c.ask-answered.new.err) line (c.ask-answered.ensures.ended h represented);
      written = c.finish.ensures.written;
    }
