-- Where a server accepts connections: as the command line has it, and as it is printed.
use Rattle.std.specs.Prelude.{◌≡◌, ◌≤◌, ◌⊎◌, ⊤, ℕ, true, false, List, [], ◌++◌, Option, Some, None, codes, decimal}
use Rattle.std.specs.Net.Addr.{ipv4_octets}
use Rattle.std.specs.Net.Grammar.{IsDotted}
use Rattle.std.specs.Net.Socket.{v4_ip, v4_port}
use Rattle.std.specs.Net.Text.{socket_v4_text}
use Rattle.std.specs.declared.net.socket_addr.SocketAddrV4.{SocketAddrV4}
use Rattle.service.specs.Outputs.{OutputState, Reports}
use Rattle.service.specs.Refusals.{ReportsFailure, line_end}

-- the text is an IPv4 address in four numbers, a colon, and the number of a port, 0 to 65535
pub record IsListenText (text : List ℕ) (listen : SocketAddrV4) : Type 0 where
  pub address : List ℕ
  pub encoded : text ≡ address ++ codes ":" ++ decimal (v4_port listen)
  pub is_address : IsDotted address (ipv4_octets (v4_ip listen))
  pub is_port : v4_port listen ≤ 65535

-- the text is no such one
abbrev pub IsNoListenText : List ℕ → Type 0
IsNoListenText text = (listen : SocketAddrV4) → IsListenText text listen → ⊥

-- both can't be listened on: they are the same, and the port isn't 0, for which the system chooses one each time
abbrev pub AreSame : SocketAddrV4 → SocketAddrV4 → Type 0
AreSame listen http = (http ≡ listen) × (v4_port listen ≡ 0 → ⊥)

-- the text is that of an address and port which can be listened on beside `listen`, and both may be missing
abbrev pub IsHttpIf : SocketAddrV4 → Option (List ℕ) → Option SocketAddrV4 → Type 0
IsHttpIf listen None None = ⊤
IsHttpIf listen (Some text) (Some http) = IsListenText text http × (AreSame listen http → ⊥)
IsHttpIf listen None (Some http) = ⊥
IsHttpIf listen (Some text) None = ⊥

-- there is a text, and it is that of no address and port, or of `listen`
abbrev pub IsNoHttp : SocketAddrV4 → Option (List ℕ) → Type 0
IsNoHttp listen None = ⊥
IsNoHttp listen (Some text) = IsNoListenText text ⊎ ((http : SocketAddrV4) × IsListenText text http × AreSame listen http)

-- where HTTP is served, if it is
abbrev pub http_text : Option SocketAddrV4 → List ℕ
http_text None = []
http_text (Some http) = codes " http " ++ socket_v4_text http

-- where connections are accepted
abbrev pub listening_line : SocketAddrV4 → Option SocketAddrV4 → List ℕ
listening_line bound http = codes "listening " ++ socket_v4_text bound ++ http_text http ++ line_end

-- That line was written, and what was buffered was written out. The exit status is 0 if all could be written, and else 1.
pub record IsListeningReported (bound : SocketAddrV4) (http : Option SocketAddrV4) (code : ℕ) (was now err_was err_now : OutputState) : Type 0 where
  pub wrote : Reports was now (listening_line bound http)
  pub sound : now.failed ≡ false → code ≡ 0
  pub failed : now.failed ≡ true → code ≡ 1
  pub reported : ReportsFailure now.failed err_was err_now
