-- When the server's table stands for a history, and what it is told in its turn.
use Rattle.std.specs.Prelude.{ℕ, ◌≡◌, ◌<◌, true, false, List, [], ◌∷◌}
use Rattle.sms_pages.specs.Stands.{Hears, StandsFor}
use Rattle.vm_base.specs.Limits.{most_hosts}
use Rattle.vm_base.specs.declared.ids.ObjectId.{ObjectId}
use Rattle.vm_legal.specs.Licences.{up}
use Rattle.vm_legal.specs.Outside.{is_shared}
use Rattle.vm_model.specs.PageLicences.{ActsLicensed}
use Rattle.vm_model.specs.PagePart.{page_part}
use Rattle.vm_model.specs.Server.{NoRequest, NoUpgrade, line}
use Rattle.vm_model.specs.Side.{side}
use Rattle.vm_model.specs.Words.{Act, UpWord, Asking, Unlocking, Returning, Doing, Ending, OtherUp, up_word}
use Rattle.vm_model.specs.declared.event.Event.{Event}
use Rattle.vm_model.specs.declared.event.Event.TheVariants as event
use Rattle.vm_model.specs.declared.message.Channel.TheVariants.{Up, Down}
use Rattle.vm_model.specs.declared.message.Message.{Message}
use Rattle.vm_model.specs.declared.message.Message.TheVariants as message
use Rattle.vm_model.specs.declared.script.Header.{Header}
use Rattle.sms_server.specs.Answers.{IsToServer, ServerAnswer}
use Rattle.sms_server.specs.Table.{ServerTable, directory_at, heard_at}

-- the directory of each page notes what the page's part of the history says, and so does the control heard from each host
pub record ServerStands (header : Header) (table : ServerTable) (past : List Event) : Type 0 where
  pub size : table.size ≡ header.size
  pub pages : (o p : ℕ) → is_shared header o ≡ true → StandsFor header.size (directory_at table o p) (page_part header.size o p past)
  pub heard : (o p : ℕ) → is_shared header o ≡ true → Hears (heard_at table o p) (page_part header.size o p past)

-- a new server, of pages of that size
pub record IsNewServer (header : Header) (table : ServerTable) : Type 0 where
  pub size : table.size ≡ header.size
  pub rows : table.rows ≡ []

-- an event in which the server has no part
abbrev pub IsOther : Header → Event → Type 0
IsOther header (event.Taken (Up host object) m) = is_shared header object.0 ≡ false
IsOther header (event.Sent (Down host object control) m) = is_shared header object.0 ≡ false
IsOther header other = Unit {0}

-- the history in which the server just took a message of a host about an object
abbrev pub taking : ℕ → ObjectId → Message → List Event → List Event
taking h object m past = event.Taken (up h object.0) m ∷ past

-- what the hosts' own rules give of a word of a page: one request and one unlock at a time, and a completion or an end
-- of the control for which the host is awaited
abbrev pub MeetsProtocol : ℕ → UpWord → List Act → Type 0
MeetsProtocol h (Asking control access) past = NoRequest h (line past)
MeetsProtocol h (Unlocking access) past = NoUpgrade h (line past)
MeetsProtocol h (Returning dirty keep bytes) past = Unit {0}
MeetsProtocol h (Doing control count) past = 0 < (side h past).awaits → (side h past).awaited_control ≡ control
MeetsProtocol h (Ending control) past = 0 < (side h past).awaits → (side h past).awaited_control ≡ control
MeetsProtocol h OtherUp past = Unit {0}

-- a server that stands for a history answers a message about a shared object, which each page of the object may take
pub record ServerServes (header : Header) (h : ℕ) (past : List Event) (object : ObjectId) (m : Message) (old new : ServerTable) (events : List Event) : Type 0
  where
    pub shared : is_shared header object.0 ≡ true
    pub host : h < most_hosts
    pub to_server : IsToServer m
    pub stands : ServerStands header old past
    pub protocol : (p : ℕ) → MeetsProtocol h (up_word p m) (page_part header.size object.0 p past)
    pub licensed : (p : ℕ) → ActsLicensed header.size (page_part header.size object.0 p (taking h object m past))
    pub answered : ServerAnswer h object m old new events

-- a first control, which no kernel makes of a shared object
abbrev pub IsCreate : Message → Type 0
IsCreate (message.Create control size) = Unit {0}
IsCreate m = ⊥
