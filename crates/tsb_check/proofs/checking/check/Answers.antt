use Rattle.std.proofs.Common.{rules, ◌≡◌, ◌⊎◌, inl, inr, ℕ, List, [], ◌∷◌, Err, IfOk, OnOk, subst}
use Rattle.once_store.specs.Readers.{reader_disk}
use Rattle.tsb_walk.specs.declared.error.NodeError.TheVariants.{BadNode, Damaged}
use Rattle.tsb_walk.specs.declared.page_place.PagePlace.{PagePlace}
use Rattle.tsb_check.specs.InUse.{AreInUse, IsUnusedUnder}
use Rattle.tsb_check.specs.Pages.{ReportsTree, IsBadUnder, IsUnknownUnder, IsDamagedUnder}
use Rattle.tsb_check.proofs.Representing.{none_bad, none_unknown_under, none_damaged_under}
use Rattle.tsb_check.proofs.Checked.{all_counted}
use Rattle.tsb_check.proofs.Used.{none_unused}
use Rattle.tsb_check.proofs.checking.check.Goals as goal

pub returns-clause-counted : goal.returns-clause-counted
returns-clause-counted g c = λ start shown shows s all are keys tree well known.
    let K = g.O.OnceDisk.known c.args.seen.now in
    let N = g.O.OnceDisk.block_count (reader_disk c.args.reader.now) in
    let one : c.in_ok-places.places.items ≡ c.args.root.now ∷ [] = search rules in
    all_counted shown s all are K N known c.args.root.now keys tree c.count_under.result
    (subst (λ (ps : List PagePlace). IfOk c.count_under.result (λ n. ReportsTree shown K N ps n ⊎ IsUnknownUnder shown K N ps)) one (c.count_under.ensures.checked start shown shows well))

pub returns-clause-checked : goal.returns-clause-checked
returns-clause-checked g c = λ start shown shows well.
    let K = g.O.OnceDisk.known c.args.seen.now in
    let N = g.O.OnceDisk.block_count (reader_disk c.args.reader.now) in
    let one : c.in_ok-places.places.items ≡ c.args.root.now ∷ [] = search rules in
    subst (λ (ps : List PagePlace). IfOk c.count_under.result (λ n. ReportsTree shown K N ps n ⊎ IsUnknownUnder shown K N ps)) one (c.count_under.ensures.checked start shown shows well)

pub returns-clause-bad : goal.returns-clause-bad
returns-clause-bad g c = λ start shown shows page e.
    let one : c.in_ok-places.places.items ≡ c.args.root.now ∷ [] = search rules in
    subst (λ (ps : List PagePlace). IsBadUnder shown ps page ⊎ IsUnusedUnder shown c.args.in_use.now ps page) one (c.count_under.ensures.bad start shown shows page e)

pub returns-clause-used : goal.returns-clause-used
returns-clause-used g c = λ start shown shows.
    let one : c.in_ok-places.places.items ≡ c.args.root.now ∷ [] = search rules in
    subst (λ (ps : List PagePlace). OnOk c.count_under.result (AreInUse shown c.args.in_use.now ps)) one (c.count_under.ensures.used start shown shows)

pub returns-clause-damaged : goal.returns-clause-damaged
returns-clause-damaged g c = λ start shown shows well block e.
    let K = g.O.OnceDisk.known c.args.seen.now in
    let N = g.O.OnceDisk.block_count (reader_disk c.args.reader.now) in
    let one : c.in_ok-places.places.items ≡ c.args.root.now ∷ [] = search rules in
    subst (λ (ps : List PagePlace). IsDamagedUnder shown K N ps block ⊎ IsUnknownUnder shown K N ps) one (c.count_under.ensures.damaged start shown shows well block e)

pub returns-clause-blames : goal.returns-clause-blames
returns-clause-blames g c = λ start shown shows s all st within page e.
    let one : c.in_ok-places.places.items ≡ c.args.root.now ∷ [] = search rules in
    elim (subst (λ (ps : List PagePlace). IsBadUnder shown ps page ⊎ IsUnusedUnder shown c.args.in_use.now ps page) one (c.count_under.ensures.bad start shown shows page e)) [
      | inl bad ↦ none_bad shown s all st.are_shown (c.args.root.now ∷ []) page bad (st.represents_all, tt)
      | inr unused ↦ none_unused shown s all st.are_shown c.args.in_use.now within (c.args.root.now ∷ []) page unused (st.represents_all, tt)
    ]

pub returns-clause-never : goal.returns-clause-never
returns-clause-never g c = λ start shown shows s all st well known block e.
    let K = g.O.OnceDisk.known c.args.seen.now in
    let N = g.O.OnceDisk.block_count (reader_disk c.args.reader.now) in
    let one : c.in_ok-places.places.items ≡ c.args.root.now ∷ [] = search rules in
    elim (subst (λ (ps : List PagePlace). IsDamagedUnder shown K N ps block ⊎ IsUnknownUnder shown K N ps) one (c.count_under.ensures.damaged start shown shows well block e)) [
      | inl damaged ↦ none_damaged_under shown s all st.are_shown K N known (c.args.root.now ∷ []) block damaged (st.represents_all, tt)
      | inr lost ↦ none_unknown_under shown s all st.are_shown K N known (c.args.root.now ∷ []) lost (st.represents_all, tt)
    ]
