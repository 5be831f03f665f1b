use Rattle.std.proofs.Common.{◌≡◌, true, false, sym, ◌∙◌, lit<, [], ◌∷◌}
use Rattle.std.proofs.lemmas.Bool.{false≢true}
use Rattle.std.proofs.lemmas.Fmt.{decimal_digit}
use Rattle.std.proofs.lemmas.Slice.Eq.{bytes_eq-Decides}
use Rattle.std.proofs.lemmas.Str.Pattern.{starts_char}
use Rattle.route_text.proofs.Numbers.{first_decimal-zero, first_decimal-plus, parse_found, parse_none}
use Rattle.route_text.proofs.number.read_u64.Goals as goal
use Rattle.route_text.proofs.number.read_u64.Goals.{then-starts_with-via-then-starts_with, then-starts_with-via-else-starts_with+then-starts_with-2}

pub returns-then-eq-clause-found : goal.returns-then-eq-clause-found
returns-then-eq-clause-found c =
    (bytes_eq-Decides c.args.text.now (48 ∷ [])).0 (sym c.eq.ensures ∙ c.if-eq.true) ∙ sym (decimal_digit 0 (lit< tt))

pub returns-then-starts_with-clause-none : goal.returns-then-starts_with-clause-none
returns-then-starts_with-clause-none c n fits e =
    let text = c.args.text.now in
    let other : text ≡ 48 ∷ [] → false ≡ true = λ same. sym c.if-eq.false ∙ c.eq.ensures ∙ (bytes_eq-Decides text (48 ∷ [])).1 same in
    elim c.then-starts_with.branch [
      | then-starts_with-via-then-starts_with w ↦ false≢true (other (first_decimal-zero n text fits e ((starts_char 48 text _ c.starts_with.ensures.cases (lit< tt) (lit< tt)).0 w.if-starts_with.true)))
      | then-starts_with-via-else-starts_with+then-starts_with-2 w ↦ first_decimal-plus n text fits e ((starts_char 43 text _ w.starts_with-else-starts_with.ensures.cases (lit< tt) (lit< tt)).0 w.if-starts_with-2.true)
    ]

pub returns-clause-found : goal.returns-clause-found
returns-clause-found c =
    let text = c.args.text.now in
    parse_found text _ _ c.parse.ensures.value.0 c.ok.ensures.value
    (λ plus. false≢true (sym c.if-starts_with-2.false ∙ (starts_char 43 text _ c.starts_with-else-starts_with.ensures.cases (lit< tt) (lit< tt)).1 plus))
    (λ zero. false≢true (sym c.if-starts_with.false ∙ (starts_char 48 text _ c.starts_with.ensures.cases (lit< tt) (lit< tt)).1 zero))

pub returns-clause-none : goal.returns-clause-none
returns-clause-none c = parse_none c.args.text.now _ _ c.parse.ensures.value.0 c.ok.ensures.value
