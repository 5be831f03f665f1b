-- What a pass has seen goes on from call to call.
use Rattle.std.proofs.Common.{◌≡◌, ℕ, ◌≤◌, inl, inr, sym, subst, le_trans}
use Rattle.std.specs.Prelude.{slice_index}
use Rattle.route_meaning.specs.History.{History, settled}
use Rattle.interleaving_core.specs.declared.query.Query.{Query}
use Rattle.interleaving_core.specs.Does.{last_moment}
use Rattle.route_meaning.proofs.api.Beginning.{Begins-trans}
use Rattle.board.specs.Past.{Past, GoesOnAs}
use Rattle.board.specs.Views.{View, IsFrontOf, IsCaughtUp, BeginsView}
use Rattle.query_threads.specs.Seeing.{Sees, Since}
use Rattle.query_threads.specs.Turns.{IsReported, IsReportedAt, IsAbove}
use Rattle.query_threads.specs.declared.refusal.AskError.{AskError}
use Rattle.query_threads.specs.declared.refusal.AskError.TheVariants.{AboveWatermark, Trouble}

pub goes_on_then : (p q r : Past) → GoesOnAs p q → GoesOnAs q r → GoesOnAs p r
goes_on_then p q r a b = record { right = a.right; begins = Begins-trans p.history q.history r.history a.begins b.begins; blocks = λ n octets is. b.blocks n octets (a.blocks n octets is) }

pub begins_then : (u v w : View) → BeginsView u v → BeginsView v w → BeginsView u w
begins_then u v w a b = record { past = goes_on_then u.past v.past w.past a.past b.past; numbers = λ i. le_trans (a.numbers i) (b.numbers i) }

-- a call under the lock, between two meetings with the writing seat
pub sees_step : (does : History → History → Type 0) (old mid new w v : View) → IsFrontOf w.past old → BeginsView old mid → GoesOnAs w.past v.past → does w.past.history v.past.history
    → new.past ≡ v.past → BeginsView mid new → IsCaughtUp new → Sees does old new
sees_step does old mid new w v front begins on done same later up = record {
  at = w.past;
  front = front;
  goes_on = subst (λ (q : Past). GoesOnAs w.past q) (sym same) on;
  done = subst (λ (q : Past). does w.past.history q.history) (sym same) done;
  begins = begins_then old mid new begins later;
  caught_up = up;
}

pub since_then : (u v w : View) → Since u v → BeginsView v w → BeginsView u w
since_then u v w (inl e) b = subst (λ (x : View). BeginsView x w) e b
since_then u v w (inr a) b = begins_then u v w a b

pub low_since : (u v : View) (i n : ℕ) → Since u v → slice_index v.numbers i ≤ n → slice_index u.numbers i ≤ n
low_since u v i n (inl e) le = subst (λ (x : View). slice_index x.numbers i ≤ n) e le
low_since u v i n (inr a) le = le_trans (a.numbers i) le

pub reported_low_at : (e : AskError) (h : History) (moment w : ℕ) → IsReportedAt e h moment → w ≤ settled h → IsAbove e → w ≤ moment
reported_low_at (AboveWatermark mark) h moment w reported low above = le_trans low reported.1
reported_low_at (Trouble trouble) h moment w reported low above = absurd above

pub reported_low : (e : AskError) (h : History) (q : Query) (w : ℕ) → IsReported e h q → w ≤ settled h → IsAbove e → w ≤ last_moment q
reported_low e h q w reported low above = reported_low_at e h (last_moment q) w reported low above
