use Rattle.std.proofs.Common.{◌≡◌, ◌≢◌, ◌*◌, ◌∙◌, ◌++◌, ◌∷◌, [], ℕ, List, false, refl, subst, sym}
use Rattle.disk_models.specs.Octets.{Within}
use Rattle.disk_models.specs.Once.{BurnsOnly, OnceState}
use Rattle.disk_files.specs.declared.state.PenState.{PenState}
use Rattle.disk_files.specs.declared.state.PenState.TheVariants.{Usable, FailedBurn}
use Rattle.disk_files.specs.Burnt.{is_marked, once_state_of}
use Rattle.disk_files.specs.Pens.{is_broken_pen, once_model}
use Rattle.disk_files.proofs.OnceStates.{at_usable, burn_only, lost_other}
use Rattle.disk_files.proofs.PenStates.{added, model_of, not_broken}
use Rattle.disk_files.proofs.blocks.FileOnceOnceDisk.burn.Goals as goal

pub returns-in-Ok-clause-only : goal.returns-in-Ok-clause-only
returns-in-Ok-clause-only g c honest =
    let pen = c.args.pen.now in
    let n = c.args.n in
    let map0 : ℕ → ℕ = (g.F.OctetFile.model pen.map).octet in
    let map1 : ℕ → ℕ = (g.F.OctetFile.model c.burn.new.map).octet in
    let blocks0 : ℕ → ℕ = (g.F.OctetFile.model pen.blocks).octet in
    let blocks1 : ℕ → ℕ = (g.F.OctetFile.model c.burn.new.blocks).octet in
    let waiting : List ℕ = pen.waiting.items in
    let whole : is_broken_pen pen ≡ false = not_broken c.args.self.now.identity pen c.if-is_stopped.ensures in
    let blank : is_marked map0 n ≡ false = c.requires.blank honest in
    let others : (i : ℕ) → i ≢ n → map1 i ≡ map0 i = λ i ne. (c.burn.ensures.others honest.1).octet i ne (pen.map_synced whole honest.1 i) in
    let outside : (i : ℕ) → ¬ Within (16384 * n) 16384 i → blocks1 i ≡ blocks0 i = (c.burn.ensures.within honest.2).outside in
    let longer : c.push.new.self.items ≡ waiting ++ n ∷ [] = added c.push.result _ _ waiting (sym c.if-is_err.ensures.value) c.push.ensures.items in
    subst (λ (w : List ℕ). BurnsOnly n (once_state_of map0 blocks0 waiting pen.state) (once_state_of map1 blocks1 w Usable)) (sym longer)
    (at_usable (λ (s : PenState). BurnsOnly n (once_state_of map0 blocks0 waiting s) (once_state_of map1 blocks1 (waiting ++ n ∷ []) Usable)) pen.state whole
    (burn_only n map0 map1 blocks0 blocks1 waiting blank others outside Usable (λ i ne. refl)))

pub returns-in-Err-clause-only : goal.returns-in-Err-clause-only
returns-in-Err-clause-only g c honest =
    let pen = c.args.pen.now in
    let n = c.args.n in
    let map0 : ℕ → ℕ = (g.F.OctetFile.model pen.map).octet in
    let map1 : ℕ → ℕ = (g.F.OctetFile.model c.burn.new.map).octet in
    let blocks0 : ℕ → ℕ = (g.F.OctetFile.model pen.blocks).octet in
    let blocks1 : ℕ → ℕ = (g.F.OctetFile.model c.burn.new.blocks).octet in
    let waiting : List ℕ = pen.waiting.items in
    let whole : is_broken_pen pen ≡ false = not_broken c.args.self.now.identity pen c.if-is_stopped.ensures in
    let blank : is_marked map0 n ≡ false = c.requires.blank honest in
    let others : (i : ℕ) → i ≢ n → map1 i ≡ map0 i = λ i ne. (c.burn.ensures.others honest.1).octet i ne (pen.map_synced whole honest.1 i) in
    let outside : (i : ℕ) → ¬ Within (16384 * n) 16384 i → blocks1 i ≡ blocks0 i = (c.burn.ensures.within honest.2).outside in
    let longer : c.push.new.self.items ≡ waiting ++ n ∷ [] = added c.push.result _ _ waiting (sym c.if-is_err.ensures.value) c.push.ensures.items in
    let left = c.fault-in-Err.ensures in
    subst (λ (o : OnceState). BurnsOnly n (once_model pen) o) (sym (model_of c.fault-in-Err.new.self _ _ _ _ left.map left.blocks (left.waiting ∙ longer) left.state))
    (at_usable (λ (s : PenState). BurnsOnly n (once_state_of map0 blocks0 waiting s) (once_state_of map1 blocks1 (waiting ++ n ∷ []) (FailedBurn n))) pen.state whole
    (burn_only n map0 map1 blocks0 blocks1 waiting blank others outside (FailedBurn n) (lost_other n (waiting ++ n ∷ []))))
