use Rattle.std.proofs.Common.{sym, ◌∙◌, true≢false}
use Rattle.changed_prefixes.proofs.Asking.{asked, within_span, above_key}
use Rattle.changed_prefixes.proofs.gathering.is_asked_for.Goals as goal

pub returns-then-is_within : goal.returns-then-is_within
returns-then-is_within c =
    let q = c.args.question.now in
    let s = c.args.spot.now in (
      λ above. asked q s c.prefix-key.result c.address-address.ensures.valid c.prefix-key.ensures.key (c.is_within.ensures.0 c.if-is_within.true) (c.is_above.ensures.0 above),
      λ h. c.is_above.ensures.1 (above_key q s c.prefix-key.result c.address-address.ensures.valid c.prefix-key.ensures.key h),
    )

pub returns-else-is_within : goal.returns-else-is_within
returns-else-is_within c = (
  λ within. absurd (true≢false (sym within ∙ c.if-is_within.false)),
  λ h. c.is_within.ensures.1 (within_span c.args.question.now c.args.spot.now c.prefix-key.result c.address-address.ensures.valid c.prefix-key.ensures.key h),
)
