use Rattle.std.proofs.Common.{ℕ, List, ap, ◌∙◌, decimal, subst}
use Rattle.std.specs.Net.Addr.{ipv4_octets}
use Rattle.std.specs.Net.Text.{ipv4_text}
use Rattle.service.specs.Outputs.{Reports}
use Rattle.service.proofs.Outputs.{Reports-trans}
use Rattle.service.proofs.listening.write_place.Goals as goal

pub returns : goal.returns
returns g c =
    let address = subst (λ (o : List ℕ). Reports c.args.out.now c.write_ipv4.new.out (ipv4_text o)) (c.octets.ensures ∙ ap ipv4_octets c.ip.ensures) c.write_ipv4.ensures.text in
    let port = subst (λ (n : ℕ). Reports c.text.new.self c.number.new.self (decimal n)) (c.from.ensures ∙ c.port.ensures) c.number.ensures.reports in
    record { text = Reports-trans _ _ _ _ _ (Reports-trans _ _ _ _ _ address c.text.ensures.reports) port }
