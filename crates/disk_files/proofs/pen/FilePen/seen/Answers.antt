use Rattle.std.proofs.Common.{◌≡◌, ◌/◌, ◌∙◌, ℕ, List, false, ap, subst, sym, true≢false}
use Rattle.disk_files.specs.declared.state.PenState.{PenState}
use Rattle.disk_files.specs.declared.state.PenState.TheVariants.{Usable}
use Rattle.disk_files.specs.Burnt.{is_listed, once_state_of}
use Rattle.disk_files.proofs.OnceStates.{at_usable, known_settled}
use Rattle.disk_files.proofs.pen.FilePen.seen.Goals as goal

pub returns-clause-known : goal.returns-clause-known
returns-clause-known g c whole follows_map follows =
    let pen = c.args.self.now in
    let seen = c.new.result in
    let map0 : ℕ → ℕ = (g.F.OctetFile.model pen.map).octet in
    let blocks0 : ℕ → ℕ = (g.F.OctetFile.model pen.blocks).octet in
    let map1 : ℕ → ℕ = (g.F.OctetFile.model seen.map).octet in
    let blocks1 : ℕ → ℕ = (g.F.OctetFile.model seen.blocks).octet in
    let waiting : List ℕ = pen.waiting.items in
    let unsettled : seen.unsettled.items ≡ waiting = c.new.ensures.unsettled ∙ c.in_ok-unsettled.ensures in
    let maps : (i : ℕ) → map1 i ≡ map0 i = λ i. ap (λ f. (g.F.OctetFile.model f).octet i) c.new.ensures.map ∙ c.in_ok-map.ensures.octets follows_map i (pen.map_synced whole follows_map i) in
    let agree : (i : ℕ) → is_listed waiting (i / 16384) ≡ false → blocks1 i ≡ blocks0 i =
    λ i unlisted. ap (λ f. (g.F.OctetFile.model f).octet i) c.new.ensures.blocks
    ∙ c.in_ok-blocks.ensures.octets follows i (λ un. true≢false (sym (pen.blocks_synced whole follows i un) ∙ unlisted)) in
    subst (λ (w : List ℕ). (once_state_of map1 blocks1 w Usable).settled ≡ (once_state_of map0 blocks0 waiting pen.state).settled) (sym unsettled)
    (at_usable (λ (s : PenState). (once_state_of map1 blocks1 waiting Usable).settled ≡ (once_state_of map0 blocks0 waiting s).settled) pen.state whole
    (known_settled blocks0 blocks1 waiting agree map0 map1 maps))
