-- The words that are accepted are those of one of the commands.
use Rattle.std.proofs.Common.{◌≡◌, ◌⊎◌, ℕ, Bool, true, false, List, [], ◌∷◌, ◌++◌, Option, Some, None, find, map, option_map, cond, is_some, unwrap_or, codes, refl, sym, ap, subst, inl, inr, ◌∙◌, ⊎_elim}
use Rattle.std.specs.List.{join_by, flat_map}
use Rattle.clap.specs.Kinds.{Kinds, IsAmong, HasKind, or_else}
use Rattle.clap.specs.Faults.{check_fault, defaults_fault, entered_fault, fault_of, settle_fault, walk_fault, is_simple_and_free}
use Rattle.clap.specs.Walk.{Row, Text, answers_to}
use Rattle.clap.specs.Simple.{App, Shape, HasMatchesOf, label_of, rows_at, subcommand_rows, argument_words, built, entered, is_simple, names_of, subcommand_of, subcommand_rows_of}
use Rattle.clap.specs.Walk.{finished, nothing_held, settled, stop_after, walk, walk_from}
use Rattle.clap.specs.Values.{kind_of}
use Rattle.clap.specs.Matches.{subcommand_name_of}
use Rattle.clap.specs.declared.error.Error.{Error}
use Rattle.clap.specs.declared.error.kind.ErrorKind.TheVariants as kind
use Rattle.clap.specs.declared.parser.matches.ArgMatches.{ArgMatches}
use Rattle.clap.specs.declared.parser.matches.ArgMatches.TheViews.{out-ArgMatches, out-SubCommand}
use Rattle.clap.specs.declared.parser.matches.SubCommand.{SubCommand}
use Rattle.std.specs.Prelude.{Box}
use Rattle.std.specs.Box.{box_value}
use Rattle.service.specs.CommandLines.{program, AreWordsOf, IsInvocation, HasBadMark, HasBadListen, HasBadHttp, HasBadConnect}
use Rattle.service.specs.inner.Naming.{IsCommand, AsksFor, NamesNoMark, NamesNoListen, NamesNoHttp, NamesNoServer}
use Rattle.service.specs.declared.invocation.Invocation.{Invocation}
use Rattle.service.specs.declared.invocation.Invocation.TheVariants.{Create, Load, Ask, Serve, Check, Info, Dump, Peers, Diff, Find}
use Rattle.service.specs.declared.invocation.CommandError.{CommandError}
use Rattle.service.specs.declared.invocation.CommandError.TheVariants.{Usage, OutOfMemory}

-- ---- words joined

after_each : {X : Type 0} (f : X → List ℕ) (sep : List ℕ) (xs : List X) → flat_map (λ x. sep ++ f x) xs ≡ flat_map (λ t. sep ++ t) (map f xs)
after_each f sep [] = refl
after_each f sep (x ∷ xs) = ap (λ (t : List ℕ). (sep ++ f x) ++ t) (after_each f sep xs)

pub joined : {X : Type 0} (f : X → List ℕ) (sep : List ℕ) (xs : List X) → join_by f sep xs ≡ join_by (λ t. t) sep (map f xs)
joined f sep [] = refl
joined f sep (x ∷ xs) = ap (λ (t : List ℕ). f x ++ t) (after_each f sep xs)

-- ---- the command that is named

last_fault : (a b : Kinds) → or_else a b ≡ [] → b ≡ []
last_fault [] b e = e
last_fault (k ∷ ks) b e = absurd cc

abbrev top : Shape
top = (built program).top

abbrev stop : List Text → Option (Text × List Text)
stop words = stop_after top.rules (names_of (built program)) (argument_words program words)

is_checked : (b : Bool) (rows : List Row) → check_fault top rows b ≡ [] → b ≡ true
is_checked true rows e = refl
is_checked false rows e = absurd cc

has_entered : (words : List Text) → fault_of program words ≡ [] → is_some (entered (built program) (stop words)) ≡ true
has_entered words e =
    let names = names_of (built program) in
    let given = argument_words program words in
    let end = (walk top.rules names nothing_held given).held in
    let rest = last_fault (walk_fault top names (walk_from nothing_held) given) _ e in
    let level = last_fault (entered_fault (built program) (stop words)) _ rest in
    let defaults = last_fault (settle_fault top.rules top.args_override_self end) _ level in
    is_checked _ (finished top.rules end) (last_fault (defaults_fault (settled top.rules end).rows top.rules) _ defaults)

-- of these values, which the shapes have, it is one
abbrev IsOneOf : {B : Type 0} → (Shape → B) → List Shape → Option B → Type 0
IsOneOf f [] found = ⊥
IsOneOf f (s ∷ []) found = found ≡ Some (f s)
IsOneOf f (s ∷ t ∷ shapes) found = (found ≡ Some (f s)) ⊎ IsOneOf f (t ∷ shapes) found

abbrev name_in : Option (Text × List Row) → Option Text
name_in = option_map (λ (p : Text × List Row). p.0)

-- the first, or what is found of the others
first_or : {B : Type 0} (f : Shape → B) (s t : Shape) (shapes : List Shape) (rest : Option Shape) → (is_some (option_map f rest) ≡ true → IsOneOf f (t ∷ shapes) (option_map f rest))
    → (b : Bool) → is_some (option_map f (cond b (Some s) rest)) ≡ true → IsOneOf f (s ∷ t ∷ shapes) (option_map f (cond b (Some s) rest))
first_or f s t shapes rest others true e = inl refl
first_or f s t shapes rest others false e = inr (others e)

-- what is found is one of them
one_found : {B : Type 0} (f : Shape → B) (P : Shape → Bool) (shapes : List Shape) → is_some (option_map f (find P shapes)) ≡ true → IsOneOf f shapes (option_map f (find P shapes))
one_found f P [] e = absurd cc
one_found f P (s ∷ []) e = only (P s) e
  where
    only : (b : Bool) → is_some (option_map f (cond b (Some s) None)) ≡ true → option_map f (cond b (Some s) None) ≡ Some (f s)
    only true e = refl
    only false e = absurd cc
one_found f P (s ∷ t ∷ shapes) e = first_or f s t shapes (find P (t ∷ shapes)) (one_found f P (t ∷ shapes)) (P s) e

-- the name of what is entered is that of its shape
named_so : (words : List Text) (found : Option Shape) → option_map (λ s. s.name) found ≡ name_in (option_map (λ s. rows_at s words) found)
named_so words None = refl
named_so words (Some s) = refl

has_name : (words : List Text) (found : Option Shape) → is_some (option_map (λ s. rows_at s words) found) ≡ true → is_some (option_map (λ s. s.name) found) ≡ true
has_name words None e = e
has_name words (Some s) e = refl

enters_one : (found : Option (Text × List Text)) → is_some (entered (built program) found) ≡ true → IsCommand (name_in (entered (built program) found))
enters_one None e = absurd cc
enters_one (Some p) e = subst IsCommand (named_so p.1 _) (one_found (λ s. s.name) (λ s. answers_to p.0 (label_of s)) (built program).subs (has_name p.1 _ e))

-- ---- what a parse that succeeds has met

-- the command line is the program's, and the words are accepted with these matches
pub record IsMet (app : App) (words : List Text) (m : ArgMatches) : Type 0 where
  pub is : app ≡ program
  pub accepted : is_simple_and_free app ≡ true → fault_of app words ≡ []
  pub matches : HasMatchesOf app words m

pub faultless : (app : App) (words : List Text) (m : ArgMatches) → IsMet app words m → fault_of program words ≡ []
faultless app words m h = sym (ap (λ (a : App). fault_of a words) h.is) ∙ h.accepted (ap is_simple_and_free h.is)

pub rows_met : (app : App) (words : List Text) (m : ArgMatches) → IsMet app words m → subcommand_rows_of m ≡ subcommand_of program words
rows_met app words m h = (h.matches (ap is_simple h.is)).1 ∙ ap (λ (a : App). subcommand_of a words) h.is

-- the name that is met is that of the rows that are met
name_of_rows : {Z : Type 0} (o : Option (Box SubCommand Z)) → option_map (λ b. (out-SubCommand (box_value b)).name.now) o ≡ name_in (subcommand_rows o)
name_of_rows None = refl
name_of_rows (Some b) = refl

-- a command is met
pub command_met : (app : App) (words : List Text) (m : ArgMatches) → IsMet app words m → IsCommand (subcommand_name_of m)
command_met app words m h =
    let same : subcommand_name_of m ≡ name_in (subcommand_of program words) = name_of_rows (out-ArgMatches m).subcommand ∙ ap name_in (rows_met app words m h) in
    subst IsCommand (sym same) (enters_one (stop words) (has_entered words (faultless app words m h)))

-- the words are those of the command that is met, with its arguments
words_met : (app : App) (words : List Text) (m : ArgMatches) (name : Text) (rows : List Row) → IsMet app words m → subcommand_rows_of m ≡ Some (name, rows) → AreWordsOf name words rows
words_met app words m name rows h e = record { accepted = faultless app words m h; arguments = sym (rows_met app words m h) ∙ e }

pub asked_by : (app : App) (words : List Text) (m : ArgMatches) (i : Invocation) → IsMet app words m → AsksFor (subcommand_rows_of m) i → IsInvocation words i
asked_by app words m (Create c) h a = (a.0, words_met app words m (codes "create") a.0 h a.1, a.2)
asked_by app words m (Load l) h a = (a.0, words_met app words m (codes "load") a.0 h a.1, a.2)
asked_by app words m (Ask q) h a = (a.0, words_met app words m (codes "ask") a.0 h a.1, a.2)
asked_by app words m (Serve s) h a = (a.0, words_met app words m (codes "serve") a.0 h a.1, a.2)
asked_by app words m (Check c) h a = (a.0, words_met app words m (codes "check") a.0 h a.1, a.2)
asked_by app words m (Info e) h a = (a.0, words_met app words m (codes "info") a.0 h a.1, a.2)
asked_by app words m (Dump d) h a = (a.0, words_met app words m (codes "dump") a.0 h a.1, a.2)
asked_by app words m (Peers l) h a = (a.0, words_met app words m (codes "peers") a.0 h a.1, a.2)
asked_by app words m (Diff c) h a = (a.0, words_met app words m (codes "diff") a.0 h a.1, a.2)
asked_by app words m (Find f) h a = (a.0, words_met app words m (codes "find") a.0 h a.1, a.2)

pub no_mark_by : (app : App) (words : List Text) (m : ArgMatches) → IsMet app words m → NamesNoMark (subcommand_rows_of m) → HasBadMark words
no_mark_by app words m h a = (a.0, words_met app words m (codes "load") a.0 h a.1, a.2)

pub no_listen_by : (app : App) (words : List Text) (m : ArgMatches) → IsMet app words m → NamesNoListen (subcommand_rows_of m) → HasBadListen words
no_listen_by app words m h a = (a.0, words_met app words m (codes "serve") a.0 h a.1, a.2)

pub no_http_by : (app : App) (words : List Text) (m : ArgMatches) → IsMet app words m → NamesNoHttp (subcommand_rows_of m) → HasBadHttp words
no_http_by app words m h a = (a.0, words_met app words m (codes "serve") a.0 h a.1, a.2)

pub no_server_by : (app : App) (words : List Text) (m : ArgMatches) → IsMet app words m → NamesNoServer (subcommand_rows_of m) → HasBadConnect words
no_server_by app words m h a = (a.0, a.1, words_met app words m a.0 a.1 h a.2, a.3)

-- the command of this name is met, with these arguments
pub named_rows : (m : ArgMatches) (name : Text) (rows : List Row) → subcommand_name_of m ≡ Some name → option_map (λ (p : Text × List Row). p.1) (subcommand_rows_of m) ≡ Some rows
    → subcommand_rows_of m ≡ Some (name, rows)
named_rows m name rows e f = both (out-ArgMatches m).subcommand e f
  where
    both : {Z : Type 0} (o : Option (Box SubCommand Z)) → option_map (λ b. (out-SubCommand (box_value b)).name.now) o ≡ Some name → option_map (λ (p : Text × List Row). p.1) (subcommand_rows o) ≡ Some rows
        → subcommand_rows o ≡ Some (name, rows)
    both None e f = absurd cc
    both (Some b) e f = cc

-- an error that is shown has a kind that the words give rise to
pub shown_kind : (app : App) (words : List Text) (error e : Error) (r : CommandError) → app ≡ program
    → (is_simple_and_free app ≡ true → HasKind (fault_of app words) error)
    → (kind_of error ≡ kind.OutOfMemory → r ≡ OutOfMemory) → (kind_of error ≡ kind.OutOfMemory) ⊎ (r ≡ Usage error)
    → r ≡ Usage e → IsAmong (kind_of e) (fault_of program words)
shown_kind app words error e r is fails memory reported shown =
    let bad : kind_of error ≡ kind.OutOfMemory → ⊥ = λ m. not_both e (sym shown ∙ memory m) in
    let same : error ≡ e = ⊎_elim (λ m. absurd (bad m)) (λ u. same_error error e (sym u ∙ shown)) reported in
    let among : IsAmong (kind_of error) (fault_of app words) = ⊎_elim (λ m. absurd (bad m)) (λ k. k) (fails (ap is_simple_and_free is)) in
    subst (λ (x : Error). IsAmong (kind_of x) (fault_of program words)) same (subst (λ (a : App). IsAmong (kind_of error) (fault_of a words)) is among)
  where
    not_both : (e : Error) → ◌≡◌ {A = CommandError} (Usage e) OutOfMemory → ⊥
    not_both e same = absurd cc

    same_error : (a b : Error) → ◌≡◌ {A = CommandError} (Usage a) (Usage b) → a ≡ b
    same_error a b same = cc

-- ---- what clap gives of an argument

pub unwrapped : {A B : Type 0} (f : A → B) (o : Option A) (d : A) → f (unwrap_or o d) ≡ unwrap_or (option_map f o) (f d)
unwrapped f None d = refl
unwrapped f (Some x) d = refl
