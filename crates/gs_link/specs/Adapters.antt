-- What the links over sockets show.
use Rattle.std.specs.Prelude.{ℕ, List, Bool, Option, is_some}
use Rattle.std.specs.declared.net.socket_addr.SocketAddr.{SocketAddr}
use Rattle.gs_link.specs.declared.socket_inlet.SocketInlet.{SocketInlet}
use Rattle.gs_link.specs.declared.socket_outlet.SocketOutlet.{SocketOutlet}

-- how often it has failed
abbrev pub inlet_faults : {S : Type 0} → SocketInlet S → ℕ
inlet_faults inlet = inlet.faults

-- the sender of the datagram that was taken last
abbrev pub last_sender : {S : Type 0} → SocketInlet S → Option SocketAddr
last_sender inlet = inlet.sender

-- whether a datagram was taken from it
abbrev pub has_taken : {S : Type 0} → SocketInlet S → Bool
has_taken inlet = is_some inlet.sender

-- its socket
abbrev pub inlet_socket : {S : Type 0} → SocketInlet S → S
inlet_socket inlet = inlet.socket

-- how often it has failed
abbrev pub outlet_faults : {S : Type 0} → SocketOutlet S → ℕ
outlet_faults outlet = outlet.faults

-- the neighbours to which it sends, each with its port
abbrev pub routes_of : {S : Type 0} → SocketOutlet S → List (ℕ × ℕ)
routes_of outlet = outlet.routes.items

-- its socket
abbrev pub outlet_socket : {S : Type 0} → SocketOutlet S → S
outlet_socket outlet = outlet.socket
