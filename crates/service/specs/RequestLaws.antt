-- Laws of request lines.
use Rattle.std.specs.Prelude.{◌≡◌, ℕ, List}
use Rattle.service.specs.declared.request.Request.{Request}
use Rattle.service.specs.Requests.{IsRequestLine}

-- no line is two requests
abbrev pub OneRequest : Type 0
OneRequest = (line : List ℕ) (q r : Request) → IsRequestLine line q → IsRequestLine line r → q ≡ r
