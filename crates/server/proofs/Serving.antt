-- Lines that are answered one after another, while more octets come.
use Rattle.std.proofs.Common.{◌≡◌, ◌<◌, ℕ, List, [], ◌++◌, Option, length, true, inl, inr, refl, sym, ap, ◌∙◌, subst, append-nil, append_assoc, Ok, Err}
use Rattle.std.specs.Io.KnownBytes.{Consumes, IsAtEnd}
use Rattle.std.proofs.KnownBytes.{Consumes-nil, Consumes-trans}
use Rattle.board.specs.Views.{View}
use Rattle.line_reader.specs.Lines.{HasNoEnd, BeginsWithLine}
use Rattle.line_reader.proofs.OneLine.{stays_the_line}
use Rattle.service.specs.Outputs.{OutputState, Reports}
use Rattle.service.specs.Refusals.{refusal_line}
use Rattle.service.specs.declared.refusal.Refusal.TheVariants as refusals
use Rattle.server.specs.declared.answering.Next.{Next}
use Rattle.server.specs.declared.answering.Next.TheVariants as nexts
use Rattle.server.specs.Answers.{AnswersLine}
use Rattle.line_reader.specs.Reading.{ReadsLine, ReadsNone}
use Rattle.line_reader.specs.declared.reading.Found.{Found}
use Rattle.line_reader.specs.declared.reading.Found.TheVariants as finds
use Rattle.line_reader.specs.declared.fault.LineError.{LineError}
use Rattle.line_reader.specs.declared.fault.LineError.TheVariants as errors
use Rattle.server.specs.declared.connection.Ending.{Ending}
use Rattle.server.specs.declared.connection.Ending.TheVariants as endings
use Rattle.server.specs.declared.port.Port.{Port}
use Rattle.server.specs.Connections.{AnswersAll, Begun, Answered, AnswersUntil, AnswersAllSent, RefusesLong, EndsSo}
use Rattle.server.specs.inner.Ends.{ReportsEnd}

-- the same lines are answered where more octets follow
pub and_more : (promised : Type 0) (port : Port) (n : ℕ) (octets : List ℕ) (v : View) (was : OutputState) (more rest : List ℕ) (w : View) (now : OutputState) → AnswersAll promised port n octets v was rest w now → AnswersAll promised port n (octets ++ more) v was (rest ++ more) w now
and_more promised port n octets v was more rest w now Begun = Begun
and_more promised port n octets v was more rest w now (Answered mid line rest' w' x now' reported out before begins answers flushed) =
    Answered (mid ++ more) line (rest' ++ more) w' x now' reported out (and_more promised port n octets v was more mid w' now' before) (stays_the_line mid line rest' more begins) answers flushed

-- what a connection gave so far, and the lines in it were answered
pub record Served (promised : Type 0) (port : Port) (n : ℕ) (held : List ℕ) (v : View) (was : OutputState) (left_was left : Option (List ℕ)) (rest : List ℕ) (w : View) (now : OutputState) : Type 0 where
  pub gave : List ℕ
  pub consumed : Consumes left_was left gave
  pub answered : AnswersAll promised port n (held ++ gave) v was rest w now

pub served_none : (promised : Type 0) (port : Port) (n : ℕ) (held : List ℕ) (v : View) (was : OutputState) (left : Option (List ℕ)) → Served promised port n held v was left left held v was
served_none promised port n held v was left = record {
  gave = [];
  consumed = Consumes-nil left;
  answered = subst (λ (octets : List ℕ). AnswersAll promised port n octets v was held v was) (sym (append-nil held)) Begun;
}

-- and more octets came
pub served_more : (promised : Type 0) (port : Port) (n : ℕ) (held : List ℕ) (v : View) (was : OutputState) (a b c : Option (List ℕ)) (rest more : List ℕ) (w : View) (now : OutputState) → Consumes b c more → Served promised port n held v was a b rest w now → Served promised port n held v was a c (rest ++ more) w now
served_more promised port n held v was a b c rest more w now eaten s = record {
  gave = s.gave ++ more;
  consumed = Consumes-trans a b c s.gave more s.consumed eaten;
  answered = subst (λ (octets : List ℕ). AnswersAll promised port n octets v was (rest ++ more) w now) (append_assoc held s.gave more) (and_more promised port n (held ++ s.gave) v was more rest w now s.answered);
}

-- and the next line was answered
pub served_line : (promised : Type 0) (port : Port) (n : ℕ) (held : List ℕ) (v : View) (was : OutputState) (a b : Option (List ℕ)) (mid line shown rest : List ℕ) (w x : View) (now reported out : OutputState) → shown ≡ line → BeginsWithLine mid line rest → AnswersLine promised port n shown nexts.Line w x now reported → Reports reported out []
    → Served promised port n held v was a b mid w now → Served promised port n held v was a b rest x out
served_line promised port n held v was a b mid line shown rest w x now reported out is begins answers flushed s = record {
  gave = s.gave;
  consumed = s.consumed;
  answered = Answered mid line rest w x now reported out s.answered begins (subst (λ (t : List ℕ). AnswersLine promised port n t nexts.Line w x now reported) is answers) flushed;
}

pub until : (promised : Type 0) (port : Port) (n : ℕ) (octets : List ℕ) (v : View) (was : OutputState) (next : Next) (mid line shown rest : List ℕ) (w x : View) (now reported out : OutputState) → shown ≡ line → BeginsWithLine mid line rest → AnswersLine promised port n shown next w x now reported → Reports reported out []
    → AnswersAll promised port n octets v was mid w now → AnswersUntil promised port n octets v was next rest x out
until promised port n octets v was next mid line shown rest w x now reported out is begins answers flushed before = record {
  mid = mid;
  line = line;
  w = w;
  now = now;
  reported = reported;
  before = before;
  begins = begins;
  answers = subst (λ (t : List ℕ). AnswersLine promised port n t next w x now reported) is answers;
  flushed = flushed;
}

-- how a connection ended that held these octets and gave more
abbrev pub Ends : Type 0 → Port → ℕ → Ending → List ℕ → View → OutputState → Option (List ℕ) → List ℕ → View → OutputState → Option (List ℕ) → Type 0
Ends promised port n ending held v was left_was rest w now left = (gave : List ℕ) × Consumes left_was left gave × EndsSo promised port n ending (held ++ gave) v was rest w now left

pub ends_sent : (promised : Type 0) (port : Port) (n : ℕ) (held : List ℕ) (v : View) (was : OutputState) (a b c : Option (List ℕ)) (rest more new : List ℕ) (w : View) (now : OutputState) → Consumes b c more → Served promised port n held v was a b rest w now → new ≡ rest ++ more → HasNoEnd (rest ++ more) → IsAtEnd c
    → Ends promised port n endings.Done held v was a new w now c
ends_sent promised port n held v was a b c rest more new w now eaten served is none ended =
    let s = served_more promised port n held v was a b c rest more w now eaten served in (
      s.gave,
      s.consumed,
      inr (inr (inl (record {
        before = subst (λ (t : List ℕ). AnswersAll promised port n (held ++ s.gave) v was t w now) (sym is) s.answered;
        none = subst HasNoEnd (sym is) none;
        ended = ended;
      }))),
    )

pub ends_long : (promised : Type 0) (port : Port) (n : ℕ) (held : List ℕ) (v : View) (was : OutputState) (a b c : Option (List ℕ)) (rest more new : List ℕ) (w : View) (now out : OutputState) → Consumes b c more → Served promised port n held v was a b rest w now → new ≡ rest ++ more → HasNoEnd (rest ++ more) → length (rest ++ more) ≡ 4096
    → Reports now out (refusal_line refusals.BadRequest) → Ends promised port n endings.Done held v was a new w out c
ends_long promised port n held v was a b c rest more new w now out eaten served is none long reported =
    let s = served_more promised port n held v was a b c rest more w now eaten served in (
      s.gave,
      s.consumed,
      inr (inr (inr (record {
        now = now;
        before = subst (λ (t : List ℕ). AnswersAll promised port n (held ++ s.gave) v was t w now) (sym is) s.answered;
        none = subst HasNoEnd (sym is) none;
        long = ap length is ∙ long;
        reported = reported;
      }))),
    )

pub ends_unread : (promised : Type 0) (port : Port) (n : ℕ) (held : List ℕ) (v : View) (was : OutputState) (a b c : Option (List ℕ)) (rest more new : List ℕ) (w : View) (now : OutputState) → Consumes b c more → Served promised port n held v was a b rest w now → new ≡ rest ++ more → Ends promised port n endings.Failed held v was a new w now c
ends_unread promised port n held v was a b c rest more new w now eaten served is =
    let s = served_more promised port n held v was a b c rest more w now eaten served in
    (s.gave, s.consumed, inl (subst (λ (t : List ℕ). AnswersAll promised port n (held ++ s.gave) v was t w now) (sym is) s.answered))

-- where the next line can't be read, what is written about it and how the connection ends
pub ends_at : (promised : Type 0) (port : Port) (n : ℕ) (held : List ℕ) (v : View) (was : OutputState) (a b c : Option (List ℕ)) (rest more line new : List ℕ) (w : View) (now out : OutputState) (why : LineError) (ending : Ending) → Consumes b c more → Served promised port n held v was a b rest w now
    → ReadsLine (Err why) (rest ++ more) line new c → ReportsEnd why ending now out → Ends promised port n ending held v was a new w out c
ends_at promised port n held v was a b c rest more line new w now out errors.TooLong ending eaten served reads reports =
    subst (λ (e : Ending). Ends promised port n e held v was a new w out c) (sym reports.0) (ends_long promised port n held v was a b c rest more new w now out eaten served reads.0.after_is reads.0.none reads.1 reports.1)
ends_at promised port n held v was a b c rest more line new w now out (errors.Failed error) ending eaten served reads reports =
    subst (λ (e : Ending). Ends promised port n e held v was a new w out c) (sym reports.0) (subst (λ (o : OutputState). Ends promised port n endings.Failed held v was a new w o c) (sym reports.1) (ends_unread promised port n held v was a b c rest more new w now eaten served reads.0.after_is))

-- the last line was answered
pub ends_by : (promised : Type 0) (port : Port) (n : ℕ) (held : List ℕ) (v : View) (was : OutputState) (a b c : Option (List ℕ)) (rest more line shown new : List ℕ) (w x : View) (now reported out : OutputState) (next : Next) → Consumes b c more → Served promised port n held v was a b rest w now → BeginsWithLine (rest ++ more) line new → shown ≡ line
    → AnswersLine promised port n shown next w x now reported → Reports reported out [] → (gave : List ℕ) × Consumes a c gave × AnswersUntil promised port n (held ++ gave) v was next new x out
ends_by promised port n held v was a b c rest more line shown new w x now reported out next eaten served begins is answers flushed =
    let s = served_more promised port n held v was a b c rest more w now eaten served in
    (s.gave, s.consumed, until promised port n (held ++ s.gave) v was next (rest ++ more) line shown new w x now reported out is begins answers flushed s.answered)

pub ends_unwritten : (promised : Type 0) (port : Port) (n : ℕ) (held : List ℕ) (v : View) (was : OutputState) (a b c : Option (List ℕ)) (rest more line shown new : List ℕ) (w x : View) (now reported out : OutputState) (next : Next) → Consumes b c more → Served promised port n held v was a b rest w now → BeginsWithLine (rest ++ more) line new → shown ≡ line
    → AnswersLine promised port n shown next w x now reported → Reports reported out [] → out.failed ≡ true → Ends promised port n endings.Failed held v was a new x out c
ends_unwritten promised port n held v was a b c rest more line shown new w x now reported out next eaten served begins is answers flushed failed =
    let e = ends_by promised port n held v was a b c rest more line shown new w x now reported out next eaten served begins is answers flushed in
    (e.0, e.1, inr (next, e.2, failed))

-- and the next line was answered, for which more octets came
pub served_next : (promised : Type 0) (port : Port) (n : ℕ) (held : List ℕ) (v : View) (was : OutputState) (a b c : Option (List ℕ)) (rest more line shown new : List ℕ) (w x : View) (now reported out : OutputState) → Consumes b c more → Served promised port n held v was a b rest w now → BeginsWithLine (rest ++ more) line new → shown ≡ line
    → AnswersLine promised port n shown nexts.Line w x now reported → Reports reported out [] → Served promised port n held v was a c new x out
served_next promised port n held v was a b c rest more line shown new w x now reported out eaten served begins is answers flushed =
    served_line promised port n held v was a c (rest ++ more) line shown new w x now reported out is begins answers flushed (served_more promised port n held v was a b c rest more w now eaten served)

-- what was met, by what it was
pub at_end : (octets line new : List ℕ) (left : Option (List ℕ)) (found : Found) → found ≡ finds.End → ReadsLine (Ok found) octets line new left → ReadsNone octets line new × (length octets < 4096) × IsAtEnd left
at_end octets line new left found is reads = subst (λ (f : Found). ReadsLine (Ok f) octets line new left) is reads

pub at_line : (octets line new : List ℕ) (left : Option (List ℕ)) (found : Found) → found ≡ finds.Line → ReadsLine (Ok found) octets line new left → BeginsWithLine octets line new
at_line octets line new left found is reads = subst (λ (f : Found). ReadsLine (Ok f) octets line new left) is reads
