-- The command line of the program: what clap reads of it, and what that asks for.
use Rattle.std.specs.Prelude.{◌≡◌, ◌≤◌, ⊤, ℕ, Bool, true, false, List, [], ◌∷◌, Option, Some, None, codes, map, option_map, string_bytes, unwrap_or}
use Rattle.std.specs.Str.Parse.{digits_value, without_leading_plus}
use Rattle.std.specs.List.{join_by}
use Rattle.clap.specs.Lexer.{usize_max}
use Rattle.clap.specs.Values.{IsUnsignedIn}
use Rattle.clap.specs.Walk.{Row, Rule, first_of, one_of, all_of}
use Rattle.clap.specs.Simple.{App, new_app, new_rule, on_top, subcommand_of, with_rule, with_subcommand}
use Rattle.clap.specs.Faults.{fault_of}
use Rattle.clap.specs.declared.builder.action.ArgAction.TheVariants.{Set, SetTrue, Append}
use Rattle.clap.specs.declared.builder.value_parser.ValueParser.TheVariants.{Unsigned}
use Rattle.route_text.specs.MomentText.{IsMarkText}
use Rattle.service.specs.declared.invocation.Creation.{Creation}
use Rattle.service.specs.declared.invocation.Loading.{Loading}
use Rattle.service.specs.declared.invocation.Question.{Question}
use Rattle.service.specs.declared.invocation.Serving.{Serving}
use Rattle.service.specs.declared.invocation.Checking.{Checking}
use Rattle.service.specs.declared.invocation.Examining.{Examining}
use Rattle.service.specs.declared.invocation.Target.{Target}
use Rattle.service.specs.declared.invocation.Target.TheVariants.{Folder, Server}
use Rattle.service.specs.declared.invocation.Dumping.{Dumping}
use Rattle.service.specs.declared.invocation.Listing.{Listing}
use Rattle.service.specs.declared.invocation.Comparing.{Comparing}
use Rattle.service.specs.declared.invocation.Finding.{Finding}
use Rattle.service.specs.declared.invocation.Invocation.{Invocation}
use Rattle.service.specs.declared.invocation.Invocation.TheVariants.{Create, Load, Ask, Serve, Check, Info, Dump, Peers, Diff, Find}
use Rattle.std.specs.declared.net.socket_addr.SocketAddrV4.{SocketAddrV4}
use Rattle.service.specs.Listening.{IsHttpIf, IsListenText, IsNoHttp, IsNoListenText}

-- a word with this name, which has to be there
abbrev pub word_rule : List ℕ → Rule
word_rule name = record (new_rule name) { action = Some Set; required = true }

-- an option with this name, which has to be there: a number from the least to the most
abbrev pub number_rule : List ℕ → ℕ → ℕ → Rule
number_rule name least most = record (new_rule name) {
  long = Some name;
  value_names = 1;
  action = Some Set;
  parser = Some (Unsigned least most);
  required = true;
}

-- an option with this name: a number from the least to the most, and the default if it isn't there
abbrev pub number_or_rule : List ℕ → ℕ → ℕ → List ℕ → Rule
number_or_rule name least most default = record (new_rule name) {
  long = Some name;
  value_names = 1;
  action = Some Set;
  parser = Some (Unsigned least most);
  defaults = default ∷ [];
}

-- an option of this name, without a text of its own
abbrev pub flag_rule : List ℕ → Rule
flag_rule name = record (new_rule name) { long = Some name; action = Some SetTrue }

-- an option of this name, and its text
abbrev pub text_rule : List ℕ → Rule
text_rule name = record (new_rule name) { long = Some name; value_names = 1; action = Some Set }

-- an option of this name, and its text, which is the default if the option isn't there
abbrev pub text_or_rule : List ℕ → List ℕ → Rule
text_or_rule name default = record (text_rule name) { defaults = default ∷ [] }

-- FILE..: one file at least
abbrev pub files_rule : Rule
files_rule = record (new_rule (codes "FILE")) {
  action = Some Append;
  range = Some (record { start_inclusive = 1; end_inclusive = usize_max });
  required = true;
}

-- --listen ADDRESS:PORT, which has to be there
abbrev pub listen_rule : Rule
listen_rule = record (new_rule (codes "listen")) { long = Some (codes "listen"); value_names = 1; action = Some Set; required = true }

-- --peer COLLECTOR ADDRESS AS
abbrev pub peer_rule : Rule
peer_rule = record (new_rule (codes "peer")) {
  long = Some (codes "peer");
  range = Some (record { start_inclusive = 3; end_inclusive = 3 });
  value_names = 3;
  action = Some Set;
}

-- WORD..: one word at least, and all that follow it
abbrev pub words_rule : Rule
words_rule = record (new_rule (codes "WORD")) {
  action = Some Append;
  range = Some (record { start_inclusive = 1; end_inclusive = usize_max });
  trailing_var_arg = true;
  required = true;
}

-- a command of this name, of a folder
abbrev pub of_folder : List ℕ → App
of_folder name = with_rule (new_app name) (word_rule (codes "DIR"))

-- a command of this name, of the archive of a folder, for which it may wait
abbrev pub of_archive : List ℕ → App
of_archive name = with_rule (of_folder name) (number_or_rule (codes "wait") 0 1000000 (codes "0"))

-- create DIR [--collectors N] [--ring P]
abbrev pub creation_of_rings : App
creation_of_rings = with_rule (with_rule (of_folder (codes "create")) (number_or_rule (codes "collectors") 1 16 (codes "1"))) (number_or_rule (codes "ring") 9 65535 (codes "4096"))

-- create DIR [--collectors N] [--ring P] [--pages N] [--blocks N]
abbrev pub creation : App
creation = with_rule (with_rule creation_of_rings (number_or_rule (codes "pages") 1 1000000000 (codes "10000000"))) (number_or_rule (codes "blocks") 1 1000000000 (codes "100000000"))

-- load DIR [--wait SECONDS] --collector C [--batch N]
abbrev pub loading_of_batches : App
loading_of_batches = with_rule (with_rule (of_archive (codes "load")) (number_rule (codes "collector") 0 15)) (number_or_rule (codes "batch") 1 1000 (codes "1000"))

-- load DIR --collector C [--batch N] [--mark M] [--resume]
abbrev pub loading_to_mark : App
loading_to_mark = with_rule (with_rule loading_of_batches (text_rule (codes "mark"))) (flag_rule (codes "resume"))

-- load DIR --collector C [--batch N] [--mark M] [--resume] [--lose-entries] [--strict] FILE..
abbrev pub loading : App
loading = with_rule (with_rule (with_rule loading_to_mark (flag_rule (codes "lose-entries"))) (flag_rule (codes "strict"))) files_rule

-- ask DIR [--wait SECONDS] [--all] [--human] WORD..
abbrev pub question : App
question = with_rule (with_rule (with_rule (of_archive (codes "ask")) (flag_rule (codes "all"))) (flag_rule (codes "human"))) words_rule

-- serve DIR [--wait SECONDS] --listen ADDRESS:PORT --workers N
abbrev pub serving_by_workers : App
serving_by_workers = with_rule (with_rule (of_archive (codes "serve")) listen_rule) (number_rule (codes "workers") 1 16)

-- serve DIR --listen ADDRESS:PORT --workers N [--read-only] [--close-on-http]
abbrev pub serving_on_port : App
serving_on_port = with_rule (with_rule serving_by_workers (flag_rule (codes "read-only"))) (flag_rule (codes "close-on-http"))

-- serve DIR --listen ADDRESS:PORT --workers N [--read-only] [--close-on-http] [--admin PATH] [--http ADDRESS:PORT] [--idle SECONDS]
abbrev pub serving : App
serving = with_rule (with_rule (with_rule serving_on_port (text_rule (codes "admin"))) (text_rule (codes "http"))) (number_or_rule (codes "idle") 1 1000000 (codes "300"))

-- check DIR [--wait SECONDS]
abbrev pub checking : App
checking = of_archive (codes "check")

-- info DIR [--wait SECONDS] [--json]
abbrev pub examining : App
examining = with_rule (of_archive (codes "info")) (flag_rule (codes "json"))

-- a command of this name, of the archive of a folder, or of one that is served
abbrev pub of_source : List ℕ → App
of_source name = with_rule (of_archive name) (flag_rule (codes "connect"))

-- NAME DIR [--wait SECONDS] [--connect] [--at T], of the table of one moment
abbrev pub of_moment : List ℕ → App
of_moment name = with_rule (of_source name) (text_rule (codes "at"))

-- dump DIR [--wait SECONDS] [--connect] [--at T] [--peer COLLECTOR ADDRESS AS] [--format FORM]
abbrev pub dumping : App
dumping = with_rule (with_rule (of_moment (codes "dump")) peer_rule) (text_or_rule (codes "format") (codes "lines"))

-- peers DIR [--wait SECONDS] [--connect] [--at T]
abbrev pub listing : App
listing = of_moment (codes "peers")

-- diff DIR [--wait SECONDS] [--connect] FROM TO [--within PREFIX]
abbrev pub comparing : App
comparing = with_rule (with_rule (with_rule (of_source (codes "diff")) (word_rule (codes "FROM"))) (word_rule (codes "TO"))) (text_rule (codes "within"))

-- find DIR [--wait SECONDS] [--connect] PREFIX [--exact] [--more] [--less]
abbrev pub finding_in_scope : App
finding_in_scope = with_rule (with_rule (with_rule (with_rule (of_source (codes "find")) (word_rule (codes "PREFIX"))) (flag_rule (codes "exact"))) (flag_rule (codes "more"))) (flag_rule (codes "less"))

-- find DIR PREFIX [--exact] [--more] [--less] [--since A] [--until B] [--origin AS] [--via AS]
abbrev pub finding : App
finding = with_rule (with_rule (with_rule (with_rule finding_in_scope (text_rule (codes "since"))) (text_rule (codes "until"))) (text_rule (codes "origin"))) (text_rule (codes "via"))

-- the program without its commands, of which one has to be there
abbrev pub bare_program : App
bare_program = on_top (λ s. record s { subcommand_required = true; disable_help_subcommand = true; has_version = true }) (new_app (codes "rha"))

-- the program with the commands that keep and question an archive
abbrev pub archive_program : App
archive_program = with_subcommand (with_subcommand (with_subcommand (with_subcommand (with_subcommand (with_subcommand bare_program creation.top) loading.top) question.top) serving.top) checking.top) examining.top

-- the program
abbrev pub program : App
program = with_subcommand (with_subcommand (with_subcommand (with_subcommand archive_program dumping.top) listing.top) comparing.top) finding.top

-- the words, with one space between two
abbrev pub spaced : List (List ℕ) → List ℕ
spaced words = join_by (λ word. word) (codes " ") words

-- The number after an option, which is within the limits: the one that its text writes, if the text is taken.
pub record IsNumber (least most : ℕ) (text : Option (List ℕ)) (n : ℕ) : Type 0 where
  pub low : least ≤ n
  pub high : n ≤ most
  pub written : (t : List ℕ) → text ≡ Some t → IsUnsignedIn least most t → n ≡ digits_value 10 (without_leading_plus t)

-- Whether an option without a text of its own is there, which clap represents by a text.
pub record IsThere (text : Option (List ℕ)) (there : Bool) : Type 0 where
  pub given : text ≡ Some (codes "true") → there ≡ true
  pub left_out : text ≡ Some (codes "false") → there ≡ false
  pub unknown : text ≡ None → there ≡ false

-- Whether an option is there, or another one that implies it.
pub record IsThereOr (implied : Bool) (text : Option (List ℕ)) (there : Bool) : Type 0 where
  pub meant : implied ≡ true → there ≡ true
  pub itself : implied ≡ false → IsThere text there

-- the text is that of a mark, and both may be missing
abbrev pub IsMarkIf : Option (List ℕ) → Option ℕ → Type 0
IsMarkIf None None = ⊤
IsMarkIf (Some text) (Some mark) = IsMarkText text mark
IsMarkIf None (Some mark) = ⊥
IsMarkIf (Some text) None = ⊥

-- there is a text, and it is that of no mark
abbrev pub IsNoMark : Option (List ℕ) → Type 0
IsNoMark None = ⊥
IsNoMark (Some text) = (mark : ℕ) → IsMarkText text mark → ⊥

-- the word of this name
abbrev pub word_in : List ℕ → List Row → List ℕ
word_in name rows = unwrap_or (first_of name rows) []

-- what is read of the arguments of `create`
pub record IsCreation (rows : List Row) (c : Creation) : Type 0 where
  pub folder : c.folder.now ≡ word_in (codes "DIR") rows
  pub collectors : IsNumber 1 16 (first_of (codes "collectors") rows) c.collectors
  pub ring : IsNumber 9 65535 (first_of (codes "ring") rows) c.ring
  pub pages : IsNumber 1 1000000000 (first_of (codes "pages") rows) c.pages
  pub blocks : IsNumber 1 1000000000 (first_of (codes "blocks") rows) c.blocks

-- what is read of the arguments of `load`
pub record IsLoading (rows : List Row) (l : Loading) : Type 0 where
  pub folder : l.folder.now ≡ word_in (codes "DIR") rows
  pub collector : IsNumber 0 15 (first_of (codes "collector") rows) l.collector
  pub batch : IsNumber 1 1000 (first_of (codes "batch") rows) l.batch
  pub wait : IsNumber 0 1000000 (first_of (codes "wait") rows) l.wait
  pub mark : IsMarkIf (first_of (codes "mark") rows) l.mark
  pub resume : IsThere (one_of (codes "resume") rows) l.resume
  pub lose_entries : IsThere (one_of (codes "lose-entries") rows) l.lose_entries
  pub strict : IsThere (one_of (codes "strict") rows) l.strict
  pub files : map (λ f. f.now) l.files.items ≡ unwrap_or (all_of (codes "FILE") rows) []

-- what is read of the arguments of `ask`
pub record IsQuestion (rows : List Row) (q : Question) : Type 0 where
  pub folder : q.folder.now ≡ word_in (codes "DIR") rows
  pub wait : IsNumber 0 1000000 (first_of (codes "wait") rows) q.wait
  pub all : IsThere (one_of (codes "all") rows) q.all
  pub human : IsThere (one_of (codes "human") rows) q.human
  pub line : string_bytes q.line ≡ spaced (unwrap_or (all_of (codes "WORD") rows) [])

-- what is read of the arguments of `serve`
pub record IsServing (rows : List Row) (s : Serving) : Type 0 where
  pub folder : s.folder.now ≡ word_in (codes "DIR") rows
  pub wait : IsNumber 0 1000000 (first_of (codes "wait") rows) s.wait
  pub listen : IsListenText (word_in (codes "listen") rows) s.listen
  pub workers : IsNumber 1 16 (first_of (codes "workers") rows) s.workers
  pub read_only : IsThere (one_of (codes "read-only") rows) s.read_only
  pub close_on_http : IsThereOr s.read_only (one_of (codes "close-on-http") rows) s.close_on_http
  pub admin : option_map (λ t. t.now) s.admin ≡ first_of (codes "admin") rows
  pub http : IsHttpIf s.listen (first_of (codes "http") rows) s.http
  pub idle : IsNumber 1 1000000 (first_of (codes "idle") rows) s.idle

-- what is read of the arguments of `check`
pub record IsChecking (rows : List Row) (c : Checking) : Type 0 where
  pub folder : c.folder.now ≡ word_in (codes "DIR") rows
  pub wait : IsNumber 0 1000000 (first_of (codes "wait") rows) c.wait

-- what is read of the arguments of `info`
pub record IsExamining (rows : List Row) (e : Examining) : Type 0 where
  pub folder : e.folder.now ≡ word_in (codes "DIR") rows
  pub wait : IsNumber 0 1000000 (first_of (codes "wait") rows) e.wait
  pub json : IsThere (one_of (codes "json") rows) e.json

-- where the archive is: in the folder that the first word names, or with --connect at the address and port in that word
abbrev pub IsTarget : List Row → Target → Type 0
IsTarget rows (Folder folder) = IsThere (one_of (codes "connect") rows) false × (folder.now ≡ word_in (codes "DIR") rows)
IsTarget rows (Server place) = IsThere (one_of (codes "connect") rows) true × IsListenText (word_in (codes "DIR") rows) place

-- what is read of the arguments of `dump`
pub record IsDumping (rows : List Row) (d : Dumping) : Type 0 where
  pub target : IsTarget rows d.target
  pub wait : IsNumber 0 1000000 (first_of (codes "wait") rows) d.wait
  pub moment : option_map (λ t. t.now) d.at ≡ first_of (codes "at") rows
  pub peer : map (λ t. t.now) d.peer.items ≡ unwrap_or (all_of (codes "peer") rows) []
  pub format : d.format.now ≡ word_in (codes "format") rows

-- what is read of the arguments of `peers`
pub record IsListing (rows : List Row) (l : Listing) : Type 0 where
  pub target : IsTarget rows l.target
  pub wait : IsNumber 0 1000000 (first_of (codes "wait") rows) l.wait
  pub moment : option_map (λ t. t.now) l.at ≡ first_of (codes "at") rows

-- what is read of the arguments of `diff`
pub record IsComparing (rows : List Row) (c : Comparing) : Type 0 where
  pub target : IsTarget rows c.target
  pub wait : IsNumber 0 1000000 (first_of (codes "wait") rows) c.wait
  pub first : c.from.now ≡ word_in (codes "FROM") rows
  pub second : c.to.now ≡ word_in (codes "TO") rows
  pub prefix : option_map (λ t. t.now) c.within ≡ first_of (codes "within") rows

-- what is read of the arguments of `find`
pub record IsFinding (rows : List Row) (f : Finding) : Type 0 where
  pub target : IsTarget rows f.target
  pub wait : IsNumber 0 1000000 (first_of (codes "wait") rows) f.wait
  pub named : f.prefix.now ≡ word_in (codes "PREFIX") rows
  pub exact : IsThere (one_of (codes "exact") rows) f.exact
  pub more : IsThere (one_of (codes "more") rows) f.more
  pub less : IsThere (one_of (codes "less") rows) f.less
  pub first : option_map (λ t. t.now) f.since ≡ first_of (codes "since") rows
  pub last : option_map (λ t. t.now) f.until ≡ first_of (codes "until") rows
  pub origin : option_map (λ t. t.now) f.origin ≡ first_of (codes "origin") rows
  pub via : option_map (λ t. t.now) f.via ≡ first_of (codes "via") rows

-- the words are accepted: they are those of the command of this name with these arguments
pub record AreWordsOf (name : List ℕ) (words : List (List ℕ)) (rows : List Row) : Type 0 where
  pub accepted : fault_of program words ≡ []
  pub arguments : subcommand_of program words ≡ Some (name, rows)

-- the words ask for this
abbrev pub IsInvocation : List (List ℕ) → Invocation → Type 0
IsInvocation words (Create c) = (rows : List Row) × AreWordsOf (codes "create") words rows × IsCreation rows c
IsInvocation words (Load l) = (rows : List Row) × AreWordsOf (codes "load") words rows × IsLoading rows l
IsInvocation words (Ask q) = (rows : List Row) × AreWordsOf (codes "ask") words rows × IsQuestion rows q
IsInvocation words (Serve s) = (rows : List Row) × AreWordsOf (codes "serve") words rows × IsServing rows s
IsInvocation words (Check c) = (rows : List Row) × AreWordsOf (codes "check") words rows × IsChecking rows c
IsInvocation words (Info e) = (rows : List Row) × AreWordsOf (codes "info") words rows × IsExamining rows e
IsInvocation words (Dump d) = (rows : List Row) × AreWordsOf (codes "dump") words rows × IsDumping rows d
IsInvocation words (Peers l) = (rows : List Row) × AreWordsOf (codes "peers") words rows × IsListing rows l
IsInvocation words (Diff c) = (rows : List Row) × AreWordsOf (codes "diff") words rows × IsComparing rows c
IsInvocation words (Find f) = (rows : List Row) × AreWordsOf (codes "find") words rows × IsFinding rows f

-- the words are accepted as those of `load`, but the text of the mark is that of no mark
abbrev pub HasBadMark : List (List ℕ) → Type 0
HasBadMark words = (rows : List Row) × AreWordsOf (codes "load") words rows × IsNoMark (first_of (codes "mark") rows)

-- the words are accepted as those of `serve`, but the text after `--listen` is that of no address and port
abbrev pub HasBadListen : List (List ℕ) → Type 0
HasBadListen words = (rows : List Row) × AreWordsOf (codes "serve") words rows × IsNoListenText (word_in (codes "listen") rows)

-- the text after `--http` is that of no address and port, or of those of `--listen`
abbrev pub HasNoHttp : List Row → Type 0
HasNoHttp rows = (listen : SocketAddrV4) × IsListenText (word_in (codes "listen") rows) listen × IsNoHttp listen (first_of (codes "http") rows)

-- the words are accepted as those of `serve`, but the text after `--http` is none that can be listened on too
abbrev pub HasBadHttp : List (List ℕ) → Type 0
HasBadHttp words = (rows : List Row) × AreWordsOf (codes "serve") words rows × HasNoHttp rows

-- with --connect the first word is that of no address and port
abbrev pub HasNoServer : List Row → Type 0
HasNoServer rows = IsThere (one_of (codes "connect") rows) true × IsNoListenText (word_in (codes "DIR") rows)

-- the words are accepted as those of a command, but with --connect the first word is that of no address and port
abbrev pub HasBadConnect : List (List ℕ) → Type 0
HasBadConnect words = (name : List ℕ) × (rows : List Row) × AreWordsOf name words rows × HasNoServer rows
