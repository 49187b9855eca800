-- What holds of the letters on their way.
use Rattle.std.specs.Prelude.{ℕ, ◌+◌, ◌<◌, ◌≤◌, ◌==◌, ◌&&◌, ◌||◌, ◌≡◌, ◌⊎◌, Bool, true, false, List, [], ◌∷◌, length, nat_lt, Option, Some, None, if◌then◌else◌}
use Rattle.vm_model.specs.declared.event.Event.{Event}
use Rattle.vm_model.specs.declared.message.Channel.{Channel}
use Rattle.vm_model.specs.declared.message.Channel.TheVariants.{Up, Down}
use Rattle.vm_model.specs.declared.message.Message.{Message}
use Rattle.vm_model.specs.declared.message.Message.TheVariants as message
use Rattle.vm_model.specs.declared.script.Header.{Header}
use Rattle.vm_model.specs.Channels.{queue}
use Rattle.vm_model.specs.Controls.{last_control, live_control}
use Rattle.vm_model.specs.Homes.{home_of, object_home}
use Rattle.vm_model.specs.PagePart.{page_part}
use Rattle.vm_model.specs.Server.{Wanting, line}
use Rattle.vm_model.specs.Side.{side}
use Rattle.vm_legal.specs.Cached.{Attributes, attributes_taken}
use Rattle.vm_legal.specs.Frames.{returns_out}
use Rattle.vm_legal.specs.Homes.{gives_frame}
use Rattle.vm_legal.specs.Licences.{LockRequest, is_paged, lock_taken, up}
use Rattle.vm_legal.specs.Outside.{is_shared}
use Rattle.vm_legal.specs.Pagers.{known_control}
use Rattle.vm_legal.specs.Steps.{Letter}
use Rattle.vm_legal.specs.Undelivered.{is_made, undelivered}
use Rattle.vm_quiet.specs.Letters.{messages_on}
use Rattle.pg_default.specs.Stands.{is_ended, is_heard_elsewhere}
use Rattle.vm_model.specs.Named.{named}
use Rattle.vm_kernel.specs.Matches.{host_id}
use Rattle.vm_kernel.specs.Taking.{IsWord}
use Rattle.sms_server.specs.Answers.{IsServerWord, IsToServer}

-- what a kernel says to a pager, where a page has so many bytes; the control that is to be answered has its channel
abbrev pub IsWordUp : ℕ → (ℕ → Bool) → Message → Type 0
IsWordUp size made (message.Init control bytes) = made control ≡ true
IsWordUp size made (message.Create control bytes) = made control ≡ true
IsWordUp size made (message.Request control page access) = made control ≡ true
IsWordUp size made (message.Return control page dirty keep bytes) = length bytes ≡ size
IsWordUp size made (message.Unlock control page access) = Unit {0}
IsWordUp size made (message.Completed control page count) = Unit {0}
IsWordUp size made (message.Terminate control) = Unit {0}
IsWordUp size made (message.Changed control cache strategy) = Unit {0}
IsWordUp size made other = ⊥

-- what the server of shared memory is told; a first control that is made for a reclaim is never one of its objects'
abbrev pub IsSharedWord : Message → Type 0
IsSharedWord (message.Create control size) = ⊥
IsSharedWord m = IsToServer m

-- a letter from a host of the header, or an answer to it; of a shared object one that its server understands, or says
abbrev pub IsHostLetter : Header → List Event → Letter → Type 0
IsHostLetter header past letter = IsOn letter.channel letter.message
  where
    IsOn : Channel → Message → Type 0
    IsOn (Up host object) m =
        (host.0 < length header.frames.items) × IsWordUp header.size (λ control. is_made (Down host object control) past) m
        × (is_shared header object.0 ≡ true → IsSharedWord m)
    IsOn (Down host object control) m =
        (host.0 < length header.frames.items) × IsWord header.size m × (is_shared header object.0 ≡ true → IsServerWord header.size m)

abbrev pub AllLetters : Header → List Event → List Letter → Type 0
AllLetters header past [] = Unit {0}
AllLetters header past (letter ∷ letters) = IsHostLetter header past letter × AllLetters header past letters

-- a host returns a page that it doesn't keep
abbrev pub is_washed : ℕ → Channel → Message → Bool
is_washed h (Up host object) m = host.0 == h && gives_frame m
is_washed h (Down host object control) m = false

-- how many such returns are on their way
abbrev pub washed_in : ℕ → List Letter → ℕ
washed_in h [] = 0
washed_in h (letter ∷ letters) = if is_washed h letter.channel letter.message then washed_in h letters + 1 else washed_in h letters

abbrev pub is_end : Message → Bool
is_end (message.Terminate control) = true
is_end other = false

-- none of the messages says that the object ends
abbrev pub NoEnd : List Message → Type 0
NoEnd [] = Unit {0}
NoEnd (m ∷ messages) = (is_end m ≡ false) × NoEnd messages

-- only the last may
abbrev pub EndsLast : List Message → Type 0
EndsLast [] = Unit {0}
EndsLast (m ∷ messages) = ((is_end m ≡ true) × (messages ≡ [])) ⊎ ((is_end m ≡ false) × EndsLast messages)

-- nothing of an object is on the way up behind its end: while its control lives no end is on the way, else only the last may be one; and where the
-- end was taken there is nothing more
pub record Ending (live : Option ℕ) (ended : Bool) (messages : List Message) : Type 0 where
  pub living : (control : ℕ) → live ≡ Some control → NoEnd messages
  pub last : EndsLast messages
  pub over : ended ≡ true → (messages ≡ []) × (live ≡ None)

-- the controls of an object on a host and the channels that were made; nothing is on the way up where there is no channel
pub record HasMade (h o : ℕ) (past : List Event) : Type 0 where
  pub live : (control : ℕ) → live_control h o past ≡ Some control → (is_made (up h o) past ≡ true)
      × (is_made (Down (host_id h) (record { 0 = o }) control) past ≡ true)
  pub never : last_control h o past ≡ 0 → (is_made (up h o) past ≡ false) × ((control : ℕ) → is_made (Down (host_id h) (record { 0 = o }) control) past ≡ false)
  pub ended : is_ended h o past ≡ true → last_control h o past ≡ 0 → ⊥
  pub quiet : is_made (up h o) past ≡ false → queue (up h o) past ≡ []
  pub unmade : (control : ℕ) → last_control h o past < control → is_made (Down (host_id h) (record { 0 = o }) control) past ≡ false
  pub unknown : is_made (up h o) past ≡ false → known_control h o past ≡ None
  pub known : (control : ℕ) → known_control h o past ≡ Some control → is_made (Down (host_id h) (record { 0 = o }) control) past ≡ true

-- the host of an object: a declared one's is that of its region, and else that of the region that it was made for
abbrev pub home_for : Header → ℕ → List Event → Option ℕ
home_for header o past = if nat_lt o (named header) then home_of o past else object_home o past

-- Of temporary memory and of files only the pager of the host of the object's region hears.
pub record IsHome (header : Header) (h o : ℕ) (past : List Event) : Type 0 where
  pub made : is_paged header o ≡ true → is_made (up h o) past ≡ true → home_for header o past ≡ Some h
  pub own : named header ≤ o → (object_home o past ≡ None) ⊎ (object_home o past ≡ Some h) → is_heard_elsewhere h o past ≡ false

-- a host stands in a line
abbrev pub stands_in : ℕ → List Wanting → Bool
stands_in h [] = false
stands_in h (w ∷ ws) = w.host == h || stands_in h ws

-- a channel leads down to the control from which the host asked last for a page
abbrev pub IsHeard : Header → ℕ → ℕ → ℕ → List Event → Type 0
IsHeard header h o p past =
    (h < length header.frames.items) × (is_made (Down (host_id h) (record { 0 = o }) (side h (page_part header.size o p past)).heard) past ≡ true)

-- so it is of a host that holds the page, by the server's words, or stands in line for it
pub record HasHeard (header : Header) (h o p : ℕ) (past : List Event) : Type 0 where
  pub holder : 0 < (side h (page_part header.size o p past)).holds → IsHeard header h o p past
  pub waiter : stands_in h (line (page_part header.size o p past)) ≡ true → IsHeard header h o p past

pub record IsOrderly (header : Header) (past : List Event) : Type 0 where
  pub letters : AllLetters header past (undelivered past)
  pub washed : (h : ℕ) → returns_out h past ≡ washed_in h (undelivered past)
  pub home : (h o : ℕ) → IsHome header h o past
  pub ending : (h o : ℕ) → named header ≤ o → Ending (live_control h o past) (is_ended h o past) (messages_on (up h o) (undelivered past))
  pub made : (h o : ℕ) → HasMade h o past
  pub known : (h o control : ℕ) → known_control h o past ≡ Some control → h < length header.frames.items
  pub heard : (h o p : ℕ) → is_shared header o ≡ true → HasHeard header h o p past
  pub locks : (request : LockRequest) → lock_taken past ≡ Some request → is_shared header request.object ≡ true → request.count ≡ 1
  pub changes : (request : Attributes) → attributes_taken past ≡ Some request → is_shared header request.object ≡ false
