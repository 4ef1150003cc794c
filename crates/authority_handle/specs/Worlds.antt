-- The server's state, as the serving theorem sees it.
use Rattle.authority_handle.specs.declared.handler.Handler.{Handler}
use Rattle.authority_handle.specs.declared.handler.Handler.TheVariants as handlers
use Rattle.authority_handle.specs.declared.server.Server.{Server}
use Rattle.authority_server.specs.Servers.{no_zones, world_of}
use Rattle.authority_server.specs.Serving.{World}
use Rattle.authority_server.specs.zsv_catalog.zsv_answer.zst_request.Views.{Blocked, Stored, View}
use Rattle.authority_server.specs.zsv_catalog.zsv_update.Keys.{no_keys}

-- The view of a handler.
abbrev pub view_of : Handler → View
view_of (handlers.Zone handler) = Stored handler.zone
view_of (handlers.Blocklist list) = Blocked list

-- The state of a server, which has no keys.
abbrev pub world_in : Server → World
world_in server = world_of (λ suite. no_keys) view_of server.authority

-- A server without zones, which every address may ask.
abbrev pub new_world : World
new_world = no_zones no_keys
