-- What a socket may tell.
use Rattle.std.specs.Prelude.{◌≡◌, ◌==◌, ℕ, List, [], ◌∷◌, ◌++◌, length, min, take, Option, Some, None, if◌then◌else◌}
use Rattle.std.specs.declared.net.socket_addr.SocketAddr.{SocketAddr}
use Rattle.std.specs.declared.net.socket_addr.SocketAddr.TheVariants.{V4, V6}
use Rattle.std.specs.Net.Addr.{ipv4_octets}
use Rattle.std.specs.Net.Socket.{v4_ip, v4_port}
use Rattle.gs_net.specs.Tales.{added}

-- a datagram from this address was given, of which the first n bytes stand in front, 64 at most
abbrev pub Hears : SocketAddr → ℕ → List ℕ → Option (List (SocketAddr × List ℕ)) → Option (List (SocketAddr × List ℕ)) → Type 0
Hears from n into None new = new ≡ None
Hears from n into (Some old) new =
    (bytes : List ℕ) × (n ≡ min 64 (length bytes)) × (take n into ≡ take n bytes) × (new ≡ Some (old ++ (from, bytes) ∷ []))

-- the same of the sender that is known as the last
abbrev pub HearsLast : Option SocketAddr → ℕ → List ℕ → Option (List (SocketAddr × List ℕ)) → Option (List (SocketAddr × List ℕ)) → Type 0
HearsLast None n into old new = ⊥
HearsLast (Some from) n into old new = Hears from n into old new

-- this went to the sender that is known as the last
abbrev pub Answers : Option SocketAddr → List ℕ → Option (List (SocketAddr × List ℕ)) → Option (List (SocketAddr × List ℕ)) → Type 0
Answers None answer old new = ⊥
Answers (Some to) answer old new = new ≡ added old (to, answer)

-- this port of 127.0.0.1
abbrev pub IsAtHome : SocketAddr → ℕ → Type 0
IsAtHome (V4 address) port = (ipv4_octets (v4_ip address) ≡ 127 ∷ 0 ∷ 0 ∷ 1 ∷ []) × (v4_port address ≡ port)
IsAtHome (V6 address) port = ⊥

-- this went to a port of 127.0.0.1
abbrev pub Sends : Option ℕ → List ℕ → Option (List (SocketAddr × List ℕ)) → Option (List (SocketAddr × List ℕ)) → Type 0
Sends None datagram old new = ⊥
Sends (Some port) datagram old new = (to : SocketAddr) × IsAtHome to port × (new ≡ added old (to, datagram))

-- the port of a neighbour: the first that was given for it
abbrev pub port_of : List (ℕ × ℕ) → ℕ → Option ℕ
port_of [] neighbour = None
port_of (route ∷ routes) neighbour = if route.0 == neighbour then Some route.1 else port_of routes neighbour
