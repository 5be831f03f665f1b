use Rattle.std.proofs.Common.{◌≡◌, ℕ, Bool, true, false, List, codes, subst}
use Rattle.clap.specs.Matches.{found_of}
use Rattle.clap.specs.Walk.{one_of, rows_of}
use Rattle.service.specs.CommandLines.{IsThere}
use Rattle.service.specs.Listening.{IsListenText, IsNoListenText}
use Rattle.service.proofs.command_line.target_of.Goals as goal

pub returns-then-not-is_there-clause-found : goal.returns-then-not-is_there-clause-found
returns-then-not-is_there-clause-found c =
    let absent : c.is_there.result ≡ false = cc c.if-not-is_there.true in
    (subst (λ (b : Bool). IsThere (one_of (codes "connect") (rows_of (found_of c.args.matches.now))) b) absent c.is_there.ensures.there, c.word_of-word.ensures.word)

pub returns-in_default-clause-none : goal.returns-in_default-clause-none
returns-in_default-clause-none c =
    let present : c.is_there.result ≡ true = cc c.if-not-is_there.false in (
      subst (λ (b : Bool). IsThere (one_of (codes "connect") (rows_of (found_of c.args.matches.now))) b) present c.is_there.ensures.there,
      subst IsNoListenText c.word_of-word.ensures.word c.in_default.ensures.none,
    )

pub returns-clause-found : goal.returns-clause-found
returns-clause-found c =
    let present : c.is_there.result ≡ true = cc c.if-not-is_there.false in (
      subst (λ (b : Bool). IsThere (one_of (codes "connect") (rows_of (found_of c.args.matches.now))) b) present c.is_there.ensures.there,
      subst (λ (t : List ℕ). IsListenText t c.in-Ok.place) c.word_of-word.ensures.word c.in-Ok.ensures.found,
    )
