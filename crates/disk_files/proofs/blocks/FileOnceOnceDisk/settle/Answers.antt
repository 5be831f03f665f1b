use Rattle.std.proofs.Common.{◌≡◌, ◌/◌, ◌∙◌, ℕ, List, false, subst, sym, true≢false}
use Rattle.disk_models.specs.Once.{OnceState, SettlesOnly}
use Rattle.disk_files.specs.declared.state.PenState.{PenState}
use Rattle.disk_files.specs.declared.state.PenState.TheVariants.{FailedSettle}
use Rattle.disk_files.specs.Burnt.{is_listed, once_state_of}
use Rattle.disk_files.specs.Pens.{is_broken_pen, once_model}
use Rattle.disk_files.proofs.OnceStates.{at_usable, settle_failed}
use Rattle.disk_files.proofs.PenStates.{model_of, not_broken}
use Rattle.disk_files.proofs.blocks.FileOnceOnceDisk.settle.Goals as goal

pub returns-in-Err-clause-only : goal.returns-in-Err-clause-only
returns-in-Err-clause-only g c honest =
    let pen = c.args.pen.now in
    let map : ℕ → ℕ = (g.F.OctetFile.model pen.map).octet in
    let blocks0 : ℕ → ℕ = (g.F.OctetFile.model pen.blocks).octet in
    let blocks1 : ℕ → ℕ = (g.F.OctetFile.model c.sync_whole.new.file).octet in
    let waiting : List ℕ = pen.waiting.items in
    let whole : is_broken_pen pen ≡ false = not_broken c.args.self.now.identity pen c.if-is_stopped.ensures in
    let agree : (i : ℕ) → is_listed waiting (i / 16384) ≡ false → blocks1 i ≡ blocks0 i =
    λ i unlisted. (c.in-Err.ensures.lingers honest.2).one_of i (λ un. true≢false (sym (pen.blocks_synced whole honest.2 i un) ∙ unlisted)) in
    let left = c.fault-in-Err.ensures in
    subst (λ (o : OnceState). SettlesOnly (once_model pen) o) (sym (model_of c.fault-in-Err.new.self _ _ _ _ left.map left.blocks left.waiting left.state))
    (at_usable (λ (s : PenState). SettlesOnly (once_state_of map blocks0 waiting s) (once_state_of map blocks1 waiting FailedSettle)) pen.state whole
    (settle_failed blocks0 blocks1 waiting agree map))
