-- What the command that is named asks for. Contracts of private functions alone cite this file.
use Rattle.std.specs.Prelude.{◌≡◌, ◌⊎◌, ℕ, List, Option, Some, codes}
use Rattle.clap.specs.Walk.{Row, first_of}
use Rattle.service.specs.CommandLines.{IsCreation, IsLoading, IsQuestion, IsServing, IsChecking, IsExamining, IsDumping, IsListing, IsComparing, IsFinding, IsNoMark, HasNoHttp, HasNoServer, word_in}
use Rattle.service.specs.Listening.{IsNoListenText}
use Rattle.service.specs.declared.invocation.Invocation.{Invocation}
use Rattle.service.specs.declared.invocation.Invocation.TheVariants.{Create, Load, Ask, Serve, Check, Info, Dump, Peers, Diff, Find}

-- a command is named, and it is one of the program's
abbrev pub IsCommand : Option (List ℕ) → Type 0
IsCommand name = (name ≡ Some (codes "create")) ⊎ ((name ≡ Some (codes "load")) ⊎ ((name ≡ Some (codes "ask")) ⊎ ((name ≡ Some (codes "serve")) ⊎ ((name ≡ Some (codes "check")) ⊎ ((name ≡ Some (codes "info")) ⊎ ((name ≡ Some (codes "dump")) ⊎ ((name ≡ Some (codes "peers")) ⊎ ((name ≡ Some (codes "diff")) ⊎ (name ≡ Some (codes "find"))))))))))

-- the command that is named asks for this, by its arguments
abbrev pub AsksFor : Option (List ℕ × List Row) → Invocation → Type 0
AsksFor named (Create c) = (rows : List Row) × (named ≡ Some (codes "create", rows)) × IsCreation rows c
AsksFor named (Load l) = (rows : List Row) × (named ≡ Some (codes "load", rows)) × IsLoading rows l
AsksFor named (Ask q) = (rows : List Row) × (named ≡ Some (codes "ask", rows)) × IsQuestion rows q
AsksFor named (Serve s) = (rows : List Row) × (named ≡ Some (codes "serve", rows)) × IsServing rows s
AsksFor named (Check c) = (rows : List Row) × (named ≡ Some (codes "check", rows)) × IsChecking rows c
AsksFor named (Info e) = (rows : List Row) × (named ≡ Some (codes "info", rows)) × IsExamining rows e
AsksFor named (Dump d) = (rows : List Row) × (named ≡ Some (codes "dump", rows)) × IsDumping rows d
AsksFor named (Peers l) = (rows : List Row) × (named ≡ Some (codes "peers", rows)) × IsListing rows l
AsksFor named (Diff c) = (rows : List Row) × (named ≡ Some (codes "diff", rows)) × IsComparing rows c
AsksFor named (Find f) = (rows : List Row) × (named ≡ Some (codes "find", rows)) × IsFinding rows f

-- `load` is named, and the text of its mark is that of no mark
abbrev pub NamesNoMark : Option (List ℕ × List Row) → Type 0
NamesNoMark named = (rows : List Row) × (named ≡ Some (codes "load", rows)) × IsNoMark (first_of (codes "mark") rows)

-- `serve` is named, and the text after `--listen` is that of no address and port
abbrev pub NamesNoListen : Option (List ℕ × List Row) → Type 0
NamesNoListen named = (rows : List Row) × (named ≡ Some (codes "serve", rows)) × IsNoListenText (word_in (codes "listen") rows)

-- `serve` is named, and the text after `--http` is that of no address and port, or of those of `--listen`
abbrev pub NamesNoHttp : Option (List ℕ × List Row) → Type 0
NamesNoHttp named = (rows : List Row) × (named ≡ Some (codes "serve", rows)) × HasNoHttp rows

-- a command is named with --connect, and its first word is that of no address and port
abbrev pub NamesNoServer : Option (List ℕ × List Row) → Type 0
NamesNoServer named = (name : List ℕ) × (rows : List Row) × (named ≡ Some (name, rows)) × HasNoServer rows
