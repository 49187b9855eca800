-- The text of a history: a line for each event, its fields behind the word, each behind a space.
use Rattle.std.specs.Prelude.{ℕ, ◌+◌, ◌/◌, ◌%◌, Bool, List, [], ◌∷◌, ◌++◌, codes, decimal, if◌then◌else◌, ◌==◌, nat_lt}
use Rattle.std.specs.List.{flat_map}
use Rattle.vm_base.specs.Code.{code_number}
use Rattle.vm_base.specs.Pages.{little_endian_bytes}
use Rattle.vm_base.specs.declared.ids.Prot.{Prot}
use Rattle.vm_base.specs.declared.ids.Inherit.{Inherit}
use Rattle.vm_base.specs.declared.ids.Inherit.TheVariants.{Share, Copy, Never}
use Rattle.vm_model.specs.declared.event.Device.{Device}
use Rattle.vm_model.specs.declared.event.Device.TheVariants.{Files, Paging}
use Rattle.vm_model.specs.declared.event.Way.{Way}
use Rattle.vm_model.specs.declared.event.Way.TheVariants.{Read, Write}
use Rattle.vm_model.specs.declared.event.Event.{Event}
use Rattle.vm_model.specs.declared.event.Event.TheVariants as event
use Rattle.vm_model.specs.declared.message.Channel.{Channel}
use Rattle.vm_model.specs.declared.message.Channel.TheVariants.{Up, Down}
use Rattle.vm_model.specs.declared.message.Message.{Message}
use Rattle.vm_model.specs.declared.message.Message.TheVariants as message

-- a field: a space, and the number
abbrev pub field : ℕ → List ℕ
field n = 32 ∷ decimal n

abbrev pub flag : Bool → ℕ
flag b = if b then 1 else 0

-- reading 1, writing 2, both 3
abbrev pub prot_number : Prot → ℕ
prot_number p = flag p.read + (if p.write then 2 else 0)

abbrev pub inherit_number : Inherit → ℕ
inherit_number Share = 0
inherit_number Copy = 1
inherit_number Never = 2

-- bytes as pairs of lower-case hexadecimal digits
abbrev pub hex_digit : ℕ → ℕ
hex_digit n = if nat_lt n 10 then 48 + n else 87 + n

abbrev pub byte_hex : ℕ → List ℕ
byte_hex byte = hex_digit (byte / 16) ∷ hex_digit (byte % 16) ∷ []

-- a page up to its last byte that isn't zero
abbrev pub trimmed : List ℕ → List ℕ
trimmed [] = []
trimmed (byte ∷ bytes) = elim (trimmed bytes) [ [] ↦ (if byte == 0 then [] else byte ∷ []) | more ∷ others ↦ byte ∷ more ∷ others ]

abbrev pub hex_or_dash : List ℕ → List ℕ
hex_or_dash [] = codes "-"
hex_or_dash (byte ∷ bytes) = flat_map byte_hex (byte ∷ bytes)

-- a page: a space, and its bytes, or a dash for zeros
abbrev pub page_field : List ℕ → List ℕ
page_field bytes = 32 ∷ hex_or_dash (trimmed bytes)

-- the way up from a host to an object, or down to one of the host's controls
abbrev pub channel_text : Channel → List ℕ
channel_text (Up host object) = codes "u" ++ decimal host.0 ++ codes "." ++ decimal object.0
channel_text (Down host object control) =
    codes "d" ++ decimal host.0 ++ codes "." ++ decimal object.0 ++ codes "." ++ decimal control

-- a message, its fields behind the word
unfoldable pub message_text : Message → List ℕ
message_text (message.Init control size) = codes "init" ++ field control ++ field size
message_text (message.Create control size) = codes "create" ++ field control ++ field size
message_text (message.Request control page access) = codes "request" ++ field control ++ field page.0 ++ field access
message_text (message.Unlock control page access) = codes "unlock" ++ field control ++ field page.0 ++ field access
message_text (message.Return control page dirty keep hex) =
    codes "return" ++ field control ++ field page.0 ++ field (flag dirty) ++ field (flag keep) ++ page_field hex
message_text (message.Completed control page count) = codes "completed" ++ field control ++ field page.0 ++ field count
message_text (message.Terminate control) = codes "terminate" ++ field control
message_text (message.Ready cache strategy) = codes "ready" ++ field (flag cache) ++ field strategy
message_text (message.Supply page lock precious hex) =
    codes "supply" ++ field page.0 ++ field lock ++ field (flag precious) ++ page_field hex
message_text (message.Unavailable page) = codes "unavailable" ++ field page.0
message_text (message.Error page reason) = codes "error" ++ field page.0 ++ field reason
message_text (message.Lock page count returns flush lock reply) =
    codes "lock" ++ field page.0 ++ field count ++ field returns ++ field (flag flush) ++ field lock ++ field (flag reply)
message_text (message.Attributes cache strategy reply) =
    codes "attributes" ++ field (flag cache) ++ field strategy ++ field (flag reply)
message_text (message.Destroy reason) = codes "destroy" ++ field reason
message_text (message.Changed control cache strategy) =
    codes "changed" ++ field control ++ field (flag cache) ++ field strategy

abbrev pub device_text : Device → List ℕ
device_text Files = codes " files"
device_text Paging = codes " paging"

abbrev pub way_text : Way → List ℕ
way_text Read = codes " read"
way_text Write = codes " write"

abbrev pub newline : List ℕ
newline = codes "\n"

-- the line of an event, with its line end
unfoldable pub line_of : Event → List ℕ
line_of (event.Line line) = codes "line" ++ field line ++ newline
line_of (event.Refused code) = codes "refused" ++ field (code_number code) ++ newline
line_of (event.TaskMade task host) = codes "made" ++ field task.0 ++ field host.0 ++ newline
line_of (event.TaskEnded task) = codes "ended" ++ field task.0 ++ newline
line_of (event.RegionMade region object pages) =
    codes "region" ++ field region.0 ++ field object.0 ++ field pages ++ newline
line_of (event.RegionCopied region source offset pages) =
    codes "cow" ++ field region.0 ++ field source.0 ++ field offset ++ field pages ++ newline
line_of (event.Delayed region source offset pages copy) =
    codes "delayed" ++ field region.0 ++ field source.0 ++ field offset ++ field pages ++ field copy.0 ++ newline
line_of (event.Entered task address bytes region offset prot inherit) =
    codes "entered" ++ field task.0 ++ field address ++ field bytes ++ field region.0 ++ field offset ++ field (prot_number prot) ++ field
    (inherit_number inherit) ++ newline
line_of (event.Removed task address bytes) = codes "removed" ++ field task.0 ++ field address ++ field bytes ++ newline
line_of (event.Protected task address bytes prot) =
    codes "protected" ++ field task.0 ++ field address ++ field bytes ++ field (prot_number prot) ++ newline
line_of (event.Inherited task address bytes inherit) =
    codes "inherited" ++ field task.0 ++ field address ++ field bytes ++ field (inherit_number inherit) ++ newline
line_of (event.BegunLoad task address size) =
    codes "begun" ++ field task.0 ++ codes " load" ++ field address ++ field size ++ newline
line_of (event.BegunStore task address size value) =
    codes "begun" ++ field task.0 ++ codes " store" ++ field address ++ field size ++ field value ++ newline
line_of (event.BegunCopy task address bytes to) =
    codes "begun" ++ field task.0 ++ codes " copy" ++ field address ++ field bytes ++ field to ++ newline
line_of (event.Loaded task object page value) =
    codes "loaded" ++ field task.0 ++ field object.0 ++ field page.0 ++ field value ++ newline
line_of (event.Stored task object page at size value) =
    codes "stored" ++ field task.0 ++ field object.0 ++ field page.0 ++ field at ++ codes " " ++ flat_map byte_hex (little_endian_bytes size value) ++ newline
line_of (event.CopiedPage task page object object_page target) =
    codes "copied" ++ field task.0 ++ field page.0 ++ field object.0 ++ field object_page.0 ++ field target.0 ++ newline
line_of (event.CopyEnded task) = codes "copyend" ++ field task.0 ++ newline
line_of (event.Failed task object page) = codes "failed" ++ field task.0 ++ field object.0 ++ field page.0 ++ newline
line_of (event.Sent channel word) = codes "sent " ++ channel_text channel ++ codes " " ++ message_text word ++ newline
line_of (event.Taken channel word) = codes "taken " ++ channel_text channel ++ codes " " ++ message_text word ++ newline
line_of (event.Dropped host object page) = codes "dropped" ++ field host.0 ++ field object.0 ++ field page.0 ++ newline
line_of (event.Zeroed host object page) = codes "zeroed" ++ field host.0 ++ field object.0 ++ field page.0 ++ newline
line_of (event.Raised host lower lower_page upper upper_page) =
    codes "raised" ++ field host.0 ++ field lower.0 ++ field lower_page.0 ++ field upper.0 ++ field upper_page.0 ++ newline
line_of (event.Shadowed region new old) = codes "shadowed" ++ field region.0 ++ field new.0 ++ field old.0 ++ newline
line_of (event.Unmarked region) = codes "unmarked" ++ field region.0 ++ newline
line_of (event.Merged upper lower) = codes "merged" ++ field upper.0 ++ field lower.0 ++ newline
line_of (event.DeviceFailed who way object page) =
    codes "device" ++ device_text who ++ way_text way ++ field object.0 ++ field page.0 ++ newline
line_of (event.NoSlot object page) = codes "noslot" ++ field object.0 ++ field page.0 ++ newline
line_of (event.Wired host count) = codes "wired" ++ field host.0 ++ field count ++ newline

-- the text of a history, whose newest event comes first here
abbrev pub text : List Event → List ℕ
text [] = []
text (event ∷ past) = text past ++ line_of event
