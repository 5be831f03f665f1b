use Rattle.std.proofs.Common.{rules, ◌≡◌, ◌∙◌, ◌<◌, Bool, Ok, Err, IfErr, ap, refl, sym, subst}
use Rattle.tsb_walk.specs.declared.error.NodeError.{NodeError}
use Rattle.tsb_walk.specs.declared.error.NodeError.TheVariants as nodes
use Rattle.disk_archive.specs.declared.ask_error.AskError.TheVariants as refusals
use Rattle.interleaving_core.specs.Does.{last_moment}
use Rattle.route_meaning.specs.History.{settled}
use Rattle.route_history.specs.Blame.{BlamesNone as NodeBlamesNone}
use Rattle.tsb_walk.specs.Refusals.{LookRefusal as PageRefusal}
use Rattle.disk_archive.specs.Cursors.{IsGathered, asks}
use Rattle.disk_archive.specs.Descents.{Descends, GoesFurther, ReadsBelow}
use Rattle.disk_archive.specs.declared.cursor.Cursor.{Cursor}
use Rattle.disk_archive.specs.declared.cursor.Cursor.TheVariants.{Rows, Events}
use Rattle.disk_archive.specs.declared.descending.Descent.{Descent}
use Rattle.disk_archive.specs.inner.Asking.{ask_of_node, BlamesNone, LookRefusal}
use Rattle.disk_archive.proofs.Asking.{ask_blames, if_err}
use Rattle.disk_archive.proofs.Faults.{asked_fault, done_not_reported, keeps_then, keeps_reported, one_reported}
use Rattle.disk_archive.proofs.Turning.{rows_descends, rows_gathered, rows_further, events_descends, events_gathered, events_further, events_below, rows_below, shows_tree, turn_refused}
use Rattle.disk_archive.proofs.descending.descend_by.Goals as goal

pub returns-in_err-root-clause-blames : goal.returns-in_err-root-clause-blames
returns-in_err-root-clause-blames g c count known h t =
    let b = c.root_of.ensures.blames t.start t.shown t.located.store t.versions t.located.level t.shows t.located.represents_node t.located.has.represents_all in
    search (rules, b)

pub returns-in_ok-turn-in-Rows-clause-descends : goal.returns-in_ok-turn-in-Rows-clause-descends
returns-in_ok-turn-in-Rows-clause-descends g c count known h t below gathered =
    let represents_all = c.in_ok-root.ensures.represents_all t.start t.shown t.located.store t.versions t.located.level t.shows t.located.represents_node t.located.has.represents_all in
    let is = c.in-Rows.is in
    let moment = subst (λ (x : Cursor). last_moment (asks x) < settled h) is below in
    let so_far = subst (λ (x : Cursor). IsGathered x h) is gathered in
    let reported = rows_descends g.P.Pages c.args.pages.now count known c.args.head.now.root c.args.head.now.block c.args.burnt c.requires.burnt h t c.versions_report.ensures.rows c.gathered_follows_histories.ensures.rows c.root_of.new.pages c.in_ok-root.root c.root_of.ensures.reads represents_all c.in-Rows.rows c.rows_turn.new.cursor c.in_ok-turn-in-Rows.turn c.rows_turn.ensures.question moment so_far c.rows_turn.ensures.gathered c.in_ok-turn-in-Rows.ensures.turn in
    subst (λ (x : Cursor). Descends count known h x (Rows c.rows_turn.new.cursor) c.of_rows.result) (sym is) (subst (λ (d : Descent). Descends count known h (Rows c.in-Rows.rows) (Rows c.rows_turn.new.cursor) d) (sym c.of_rows.ensures) reported)

pub returns-in_ok-turn-in-Rows-clause-gathered : goal.returns-in_ok-turn-in-Rows-clause-gathered
returns-in_ok-turn-in-Rows-clause-gathered g c count known h t below gathered =
    let represents_all = c.in_ok-root.ensures.represents_all t.start t.shown t.located.store t.versions t.located.level t.shows t.located.represents_node t.located.has.represents_all in
    let is = c.in-Rows.is in
    let moment = subst (λ (x : Cursor). last_moment (asks x) < settled h) is below in
    let so_far = subst (λ (x : Cursor). IsGathered x h) is gathered in
    rows_gathered g.P.Pages c.args.pages.now count known c.args.head.now.root c.args.head.now.block c.args.burnt c.requires.burnt h t c.versions_report.ensures.rows c.gathered_follows_histories.ensures.rows c.root_of.new.pages c.in_ok-root.root c.root_of.ensures.reads represents_all c.in-Rows.rows c.rows_turn.new.cursor c.rows_turn.ensures.question moment so_far c.rows_turn.ensures.gathered

pub returns-in_err-turn-in-Rows-clause-gathered : goal.returns-in_err-turn-in-Rows-clause-gathered
returns-in_err-turn-in-Rows-clause-gathered g c count known h t below gathered =
    let represents_all = c.in_ok-root.ensures.represents_all t.start t.shown t.located.store t.versions t.located.level t.shows t.located.represents_node t.located.has.represents_all in
    let is = c.in-Rows.is in
    let moment = subst (λ (x : Cursor). last_moment (asks x) < settled h) is below in
    let so_far = subst (λ (x : Cursor). IsGathered x h) is gathered in
    rows_gathered g.P.Pages c.args.pages.now count known c.args.head.now.root c.args.head.now.block c.args.burnt c.requires.burnt h t c.versions_report.ensures.rows c.gathered_follows_histories.ensures.rows c.root_of.new.pages c.in_ok-root.root c.root_of.ensures.reads represents_all c.in-Rows.rows c.rows_turn.new.cursor c.rows_turn.ensures.question moment so_far c.rows_turn.ensures.gathered

pub returns-in_ok-turn-in-Rows-clause-further : goal.returns-in_ok-turn-in-Rows-clause-further
returns-in_ok-turn-in-Rows-clause-further g c =
    let on = rows_further c.in-Rows.rows c.rows_turn.new.cursor c.in_ok-turn-in-Rows.turn c.in_ok-turn-in-Rows.ensures.goes_on in
    subst (λ (x : Cursor). GoesFurther x (Rows c.rows_turn.new.cursor) c.of_rows.result) (sym c.in-Rows.is) (subst (λ (d : Descent). GoesFurther (Rows c.in-Rows.rows) (Rows c.rows_turn.new.cursor) d) (sym c.of_rows.ensures) on)

pub returns-in_err-turn-in-Rows-clause-blames : goal.returns-in_err-turn-in-Rows-clause-blames
returns-in_err-turn-in-Rows-clause-blames g c count known h t =
    let represents_all = c.in_ok-root.ensures.represents_all t.start t.shown t.located.store t.versions t.located.level t.shows t.located.represents_node t.located.has.represents_all in
    let shown = shows_tree g.P.Pages c.args.pages.now count known c.args.head.now.root c.args.head.now.block c.args.burnt c.requires.burnt h t c.root_of.new.pages c.in_ok-root.root c.root_of.ensures.reads represents_all in
    let b : IfErr c.rows_turn.result (λ e. BlamesNone (ask_of_node e)) = if_err ask_of_node NodeBlamesNone BlamesNone c.rows_turn.result ask_blames (c.rows_turn.ensures.blames t.located.store t.versions shown) in
    search (rules, b)

pub returns-in_err-turn-in-Rows-clause-refused : goal.returns-in_err-turn-in-Rows-clause-refused
returns-in_err-turn-in-Rows-clause-refused g c =
    let down = g.P.Pages.down c.args.pages.now in
    let r = subst (λ (d : Bool). IfErr c.rows_turn.result (PageRefusal d)) c.root_of.ensures.down c.rows_turn.ensures.refused in
    let b : IfErr c.rows_turn.result (λ e. LookRefusal down (ask_of_node e)) = if_err ask_of_node (PageRefusal down) (LookRefusal down) c.rows_turn.result (turn_refused down) r in
    search (rules, b)

pub returns-in_ok-turn-in-Events-clause-descends : goal.returns-in_ok-turn-in-Events-clause-descends
returns-in_ok-turn-in-Events-clause-descends g c count known h t below gathered =
    let represents_all = c.in_ok-root.ensures.represents_all t.start t.shown t.located.store t.versions t.located.level t.shows t.located.represents_node t.located.has.represents_all in
    let is = c.in-Events.is in
    let moment = subst (λ (x : Cursor). last_moment (asks x) < settled h) is below in
    let so_far = subst (λ (x : Cursor). IsGathered x h) is gathered in
    let reported = events_descends g.P.Pages c.args.pages.now count known c.args.head.now.root c.args.head.now.block c.args.burnt c.requires.burnt h t c.versions_report.ensures.events c.gathered_follows_histories.ensures.events c.root_of.new.pages c.in_ok-root.root c.root_of.ensures.reads represents_all c.in-Events.events c.events_turn.new.cursor c.in_ok-turn-in-Events.turn c.events_turn.ensures.question moment c.encoded_len-len.ensures.valid c.address-address.ensures.valid so_far c.events_turn.ensures.gathered c.in_ok-turn-in-Events.ensures.turn in
    subst (λ (x : Cursor). Descends count known h x (Events c.events_turn.new.cursor) c.of_events.result) (sym is) (subst (λ (d : Descent). Descends count known h (Events c.in-Events.events) (Events c.events_turn.new.cursor) d) (sym c.of_events.ensures) reported)

pub returns-in_ok-turn-in-Events-clause-gathered : goal.returns-in_ok-turn-in-Events-clause-gathered
returns-in_ok-turn-in-Events-clause-gathered g c count known h t below gathered =
    let represents_all = c.in_ok-root.ensures.represents_all t.start t.shown t.located.store t.versions t.located.level t.shows t.located.represents_node t.located.has.represents_all in
    let is = c.in-Events.is in
    let moment = subst (λ (x : Cursor). last_moment (asks x) < settled h) is below in
    let so_far = subst (λ (x : Cursor). IsGathered x h) is gathered in
    events_gathered g.P.Pages c.args.pages.now count known c.args.head.now.root c.args.head.now.block c.args.burnt c.requires.burnt h t c.versions_report.ensures.events c.gathered_follows_histories.ensures.events c.root_of.new.pages c.in_ok-root.root c.root_of.ensures.reads represents_all c.in-Events.events c.events_turn.new.cursor c.events_turn.ensures.question moment c.encoded_len-len.ensures.valid c.address-address.ensures.valid so_far c.events_turn.ensures.gathered

pub returns-in_err-turn-in-Events-clause-gathered : goal.returns-in_err-turn-in-Events-clause-gathered
returns-in_err-turn-in-Events-clause-gathered g c count known h t below gathered =
    let represents_all = c.in_ok-root.ensures.represents_all t.start t.shown t.located.store t.versions t.located.level t.shows t.located.represents_node t.located.has.represents_all in
    let is = c.in-Events.is in
    let moment = subst (λ (x : Cursor). last_moment (asks x) < settled h) is below in
    let so_far = subst (λ (x : Cursor). IsGathered x h) is gathered in
    events_gathered g.P.Pages c.args.pages.now count known c.args.head.now.root c.args.head.now.block c.args.burnt c.requires.burnt h t c.versions_report.ensures.events c.gathered_follows_histories.ensures.events c.root_of.new.pages c.in_ok-root.root c.root_of.ensures.reads represents_all c.in-Events.events c.events_turn.new.cursor c.events_turn.ensures.question moment c.encoded_len-len.ensures.valid c.address-address.ensures.valid so_far c.events_turn.ensures.gathered

pub returns-in_ok-turn-in-Events-clause-further : goal.returns-in_ok-turn-in-Events-clause-further
returns-in_ok-turn-in-Events-clause-further g c =
    let on = events_further c.in-Events.events c.events_turn.new.cursor c.in_ok-turn-in-Events.turn c.in_ok-turn-in-Events.ensures.goes_on in
    subst (λ (x : Cursor). GoesFurther x (Events c.events_turn.new.cursor) c.of_events.result) (sym c.in-Events.is) (subst (λ (d : Descent). GoesFurther (Events c.in-Events.events) (Events c.events_turn.new.cursor) d) (sym c.of_events.ensures) on)

pub returns-in_err-turn-in-Events-clause-blames : goal.returns-in_err-turn-in-Events-clause-blames
returns-in_err-turn-in-Events-clause-blames g c count known h t =
    let represents_all = c.in_ok-root.ensures.represents_all t.start t.shown t.located.store t.versions t.located.level t.shows t.located.represents_node t.located.has.represents_all in
    let shown = shows_tree g.P.Pages c.args.pages.now count known c.args.head.now.root c.args.head.now.block c.args.burnt c.requires.burnt h t c.root_of.new.pages c.in_ok-root.root c.root_of.ensures.reads represents_all in
    let b : IfErr c.events_turn.result (λ e. BlamesNone (ask_of_node e)) = if_err ask_of_node NodeBlamesNone BlamesNone c.events_turn.result ask_blames (c.events_turn.ensures.blames t.located.store t.versions shown) in
    search (rules, b)

pub returns-in_err-turn-in-Events-clause-refused : goal.returns-in_err-turn-in-Events-clause-refused
returns-in_err-turn-in-Events-clause-refused g c =
    let down = g.P.Pages.down c.args.pages.now in
    let r = subst (λ (d : Bool). IfErr c.events_turn.result (PageRefusal d)) c.root_of.ensures.down c.events_turn.ensures.refused in
    let b : IfErr c.events_turn.result (λ e. LookRefusal down (ask_of_node e)) = if_err ask_of_node (PageRefusal down) (LookRefusal down) c.events_turn.result (turn_refused down) r in
    search (rules, b)

-- ---- the device of the pages

pub returns-in_err-root-clause-device : goal.returns-in_err-root-clause-device
returns-in_err-root-clause-device g c =
    let e = c.in_err-root.field-0.0 in
    let r : c.root_of.result ≡ Err e = search rules in
    let d : c.from_residual.result ≡ Err e = search rules in
    keeps_reported _ _ _ _ _ _
    (λ reported. r ∙ ap Err (one_reported c.from_residual.result e refusals.Fault d reported))
    (λ failed. d ∙ ap Err (one_reported c.root_of.result e refusals.Fault r failed))
    c.root_of.ensures.device

pub returns-in_ok-turn-in-Rows-clause-device : goal.returns-in_ok-turn-in-Rows-clause-device
returns-in_ok-turn-in-Rows-clause-device g c =
    let root : c.root_of.result ≡ Ok c.in_ok-root.root = search rules in
    let first = keeps_reported _ _ _ _ _ ⊥ (λ never. absurd never) (done_not_reported c.root_of.result c.in_ok-root.root refusals.Fault root) c.root_of.ensures.device in
    let turn : c.rows_turn.result ≡ Ok c.in_ok-turn-in-Rows.turn = search rules in
    keeps_then _ _ _ _ _ _ _ first
    (keeps_reported _ _ _ _ _ _ (λ reported. absurd (done_not_reported _ _ refusals.Fault refl reported)) (λ failed. absurd (done_not_reported c.rows_turn.result c.in_ok-turn-in-Rows.turn nodes.Fault turn failed)) c.rows_turn.ensures.same.device)

pub returns-in_err-turn-in-Rows-clause-device : goal.returns-in_err-turn-in-Rows-clause-device
returns-in_err-turn-in-Rows-clause-device g c =
    let root : c.root_of.result ≡ Ok c.in_ok-root.root = search rules in
    let first = keeps_reported _ _ _ _ _ ⊥ (λ never. absurd never) (done_not_reported c.root_of.result c.in_ok-root.root refusals.Fault root) c.root_of.ensures.device in
    let e = c.in_err-turn-in-Rows.field-0.0 in
    let r : c.rows_turn.result ≡ Err e = search rules in
    let d : c.from_residual-in_err-turn-in-Rows.result ≡ Err (ask_of_node e) = search rules in
    keeps_then _ _ _ _ _ _ _ first
    (keeps_reported _ _ _ _ _ _
    (λ reported. r ∙ ap Err (asked_fault _ e c.in_err-turn-in-Rows.ensures.refused (one_reported c.from_residual-in_err-turn-in-Rows.result (ask_of_node e) refusals.Fault d reported)))
    (λ failed. d ∙ ap (λ (x : NodeError). Err (ask_of_node x)) (one_reported c.rows_turn.result e nodes.Fault r failed))
    c.rows_turn.ensures.same.device)

pub returns-in_ok-turn-in-Events-clause-device : goal.returns-in_ok-turn-in-Events-clause-device
returns-in_ok-turn-in-Events-clause-device g c =
    let root : c.root_of.result ≡ Ok c.in_ok-root.root = search rules in
    let first = keeps_reported _ _ _ _ _ ⊥ (λ never. absurd never) (done_not_reported c.root_of.result c.in_ok-root.root refusals.Fault root) c.root_of.ensures.device in
    let turn : c.events_turn.result ≡ Ok c.in_ok-turn-in-Events.turn = search rules in
    keeps_then _ _ _ _ _ _ _ first
    (keeps_reported _ _ _ _ _ _ (λ reported. absurd (done_not_reported _ _ refusals.Fault refl reported)) (λ failed. absurd (done_not_reported c.events_turn.result c.in_ok-turn-in-Events.turn nodes.Fault turn failed)) c.events_turn.ensures.same.device)

pub returns-in_err-turn-in-Events-clause-device : goal.returns-in_err-turn-in-Events-clause-device
returns-in_err-turn-in-Events-clause-device g c =
    let root : c.root_of.result ≡ Ok c.in_ok-root.root = search rules in
    let first = keeps_reported _ _ _ _ _ ⊥ (λ never. absurd never) (done_not_reported c.root_of.result c.in_ok-root.root refusals.Fault root) c.root_of.ensures.device in
    let e = c.in_err-turn-in-Events.field-0.0 in
    let r : c.events_turn.result ≡ Err e = search rules in
    let d : c.from_residual-in_err-turn-in-Events.result ≡ Err (ask_of_node e) = search rules in
    keeps_then _ _ _ _ _ _ _ first
    (keeps_reported _ _ _ _ _ _
    (λ reported. r ∙ ap Err (asked_fault _ e c.in_err-turn-in-Events.ensures.refused (one_reported c.from_residual-in_err-turn-in-Events.result (ask_of_node e) refusals.Fault d reported)))
    (λ failed. d ∙ ap (λ (x : NodeError). Err (ask_of_node x)) (one_reported c.events_turn.result e nodes.Fault r failed))
    c.events_turn.ensures.same.device)

-- ---- errands

pub returns-in_ok-turn-in-Rows-clause-burnt : goal.returns-in_ok-turn-in-Rows-clause-burnt
returns-in_ok-turn-in-Rows-clause-burnt g c =
    subst (λ (d : Descent). ReadsBelow c.args.burnt d) (sym c.of_rows.ensures) (rows_below c.args.burnt c.in_ok-turn-in-Rows.turn c.in_ok-turn-in-Rows.ensures.burnt)

pub returns-in_ok-turn-in-Events-clause-burnt : goal.returns-in_ok-turn-in-Events-clause-burnt
returns-in_ok-turn-in-Events-clause-burnt g c =
    subst (λ (d : Descent). ReadsBelow c.args.burnt d) (sym c.of_events.ensures) (events_below c.args.burnt c.in_ok-turn-in-Events.turn c.in_ok-turn-in-Events.ensures.burnt)
