use Rattle.std.proofs.Common.{ℕ, List, ◌∷◌, ◌++◌, Some, sym, ap, subst, ◌∙◌, append_assoc, arith, codes, decimal}
use Rattle.std.specs.Net.Addr.{ipv4_octets}
use Rattle.std.specs.Net.Grammar.{IsDotted}
use Rattle.std.specs.Net.Socket.{v4_port}
use Rattle.std.proofs.lemmas.Str.Pattern.{split_parts}
use Rattle.service.proofs.ListenTexts.{always, listen_none, listen_parts}
use Rattle.service.proofs.listening.read_listen.Goals as goal

pub returns-in_default-clause-none : goal.returns-in_default-clause-none
returns-in_default-clause-none c = λ listen h. listen_none c.args.text.now listen c.in_default.ensures.cases h

pub returns-in_err-octets-clause-none : goal.returns-in_err-octets-clause-none
returns-in_err-octets-clause-none c = always c.from_residual.result _ (λ listen h.
    let parts = listen_parts c.args.text.now (Some (c.in-Some.address, c.in-Some.port)) listen h c.in-Some.ensures.cases in
    c.in_err-octets.ensures.none _ (subst (λ (t : List ℕ). IsDotted t _) (sym parts.0) h.is_address))

pub returns-in_err-port-clause-none : goal.returns-in_err-port-clause-none
returns-in_err-port-clause-none c = always c.from_residual-in_err-port.result _ (λ listen h.
    let parts = listen_parts c.args.text.now (Some (c.in-Some.address, c.in-Some.port)) listen h c.in-Some.ensures.cases in
    c.in_err-port.ensures.none (v4_port listen) h.is_port parts.1)

pub returns-clause-found : goal.returns-clause-found
returns-clause-found c =
    let parts = split_parts 58 c.args.text.now (Some (c.in-Some.address, c.in-Some.port)) c.in-Some.ensures.cases (omega arith) in
    record {
      address = c.in-Some.address.now;
      encoded = parts.0 ∙ ap (λ (t : List ℕ). c.in-Some.address.now ++ 58 ∷ t) (c.in_ok-port.ensures.found ∙ ap decimal (sym c.new.ensures.port)) ∙ sym (append_assoc c.in-Some.address.now (codes ":") (decimal (v4_port c.new.result)));
      is_address = subst (IsDotted c.in-Some.address.now) (sym (ap ipv4_octets c.new.ensures.ip ∙ c.from_octets.ensures)) c.in_ok-octets.ensures.found;
      is_port = (let most = c.in_ok-port.ensures.in_range in omega (arith, c.new.ensures.port));
    }
