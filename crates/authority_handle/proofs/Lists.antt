-- A blocklist that is read, from its parts.
use Rattle.std.proofs.Common.{◌<◌, ◌≤◌, ◌^◌, ℕ, List, length, subst, sym}
use Rattle.std.specs.Str.{IsUtf8}
use Rattle.authority_handle.specs.Blocklists.{HasSettings, IsBlocklist, IsListOf}
use Rattle.authority_handle.specs.declared.blocklists.BlocklistSettings.{BlocklistSettings}
use Rattle.authority_load.specs.ZoneText.{IsOwnerText}
use Rattle.authority_server.specs.zsv_catalog.zsv_answer.zst_request.Views.{Blocklist}
use Rattle.authority_server.specs.zsv_catalog.zsv_answer.zst_request.dnw_name.DomainName.{DomainName}
use Rattle.zsv_blocklist.specs.Blocklists.{blocklist_of}
use Rattle.zsv_blocklist.specs.declared.config.BlocklistConfig.{BlocklistConfig}

pub is_read : (settings : BlocklistSettings) (name text message : List ℕ) (origin : DomainName) (config : BlocklistConfig) → IsOwnerText name origin → IsUtf8 text → length text < 2 ^ 32 → IsUtf8 message → length message ≤ 255
    → ((o : DomainName) (names : List DomainName) → HasSettings settings message (blocklist_of o names config))
    → (list : Blocklist) → IsListOf origin config text list → IsBlocklist settings name text message list
is_read settings name text message origin config named utf8 short message_utf8 fits has list (names, added, is) =
    subst (IsBlocklist settings name text message) (sym is)
    (record { named = named; utf8 = utf8; short = short; names = added; message_utf8 = message_utf8; fits = fits; has = has origin names })
