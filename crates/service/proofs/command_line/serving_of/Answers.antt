use Rattle.std.proofs.Common.{ℕ, List, Option, subst}
use Rattle.service.specs.Listening.{IsHttpIf, IsListenText, IsNoHttp, IsNoListenText}
use Rattle.service.proofs.command_line.serving_of.Goals as goal

pub returns-in_default-clause-listen : goal.returns-in_default-clause-listen
returns-in_default-clause-listen c = λ is. subst IsNoListenText c.word_of.ensures.word c.in_default.ensures.none

pub returns-in_default-read_http-clause-http : goal.returns-in_default-read_http-clause-http
returns-in_default-read_http-clause-http c = λ is. (
  c.in-Ok.listen,
  subst (λ (t : List ℕ). IsListenText t c.in-Ok.listen) c.word_of.ensures.word c.in-Ok.ensures.found,
  subst (λ (t : Option (List ℕ)). IsNoHttp c.in-Ok.listen t) c.text_of.ensures.text c.in_default-read_http.ensures.none,
)

pub returns-clause-found : goal.returns-clause-found
returns-clause-found c = record {
  folder = c.word_of-2.ensures.word;
  listen = subst (λ (t : List ℕ). IsListenText t c.in-Ok.listen) c.word_of.ensures.word c.in-Ok.ensures.found;
  workers = c.number_of.ensures.number;
  wait = c.number_of-2.ensures.number;
  read_only = c.is_there-read_only.ensures.there;
  close_on_http = c.is_there_or.ensures.there;
  admin = c.text_of-2.ensures.text;
  http = subst (λ (t : Option (List ℕ)). IsHttpIf c.in-Ok.listen t c.in-Ok-read_http.http) c.text_of.ensures.text c.in-Ok-read_http.ensures.found;
  idle = c.number_of-3.ensures.number;
}
