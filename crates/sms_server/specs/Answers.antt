-- What the shared memory server answers to each message, and what it leaves.
use Rattle.std.specs.Prelude.{ℕ, suc, ◌≡◌, ◌≢◌, ◌≤◌, ◌⊎◌, ◌==◌, Bool, true, false, List, [], ◌∷◌, ◌++◌, length, slice_index, slice_set, if◌then◌else◌}
use Rattle.sms_pages.specs.Directory.{Directory, IsSame, IsServedDirectory, Outcome, ended, finished, most_replies, requested, saved, served, unlock_heard}
use Rattle.sms_pages.specs.Stands.{lock_number}
use Rattle.sms_pages.specs.declared.reply.Reply.{Reply}
use Rattle.sms_pages.specs.declared.reply.Reply.TheVariants.{Supply, Flush, CleanLock, Unlock}
use Rattle.vm_base.specs.declared.ids.HostId.{HostId}
use Rattle.vm_base.specs.declared.ids.ObjectId.{ObjectId}
use Rattle.vm_base.specs.declared.ids.PageNo.{PageNo}
use Rattle.vm_model.specs.Words.{UpWord, Asking, Unlocking, Returning, Doing, Ending, OtherUp, up_word}
use Rattle.vm_model.specs.declared.event.Event.{Event}
use Rattle.vm_model.specs.declared.event.Event.TheVariants as event
use Rattle.vm_model.specs.declared.message.Channel.TheVariants.{Down}
use Rattle.vm_model.specs.declared.message.Message.{Message}
use Rattle.vm_model.specs.declared.message.Message.TheVariants as message
use Rattle.sms_server.specs.declared.page_row.PageRow.{PageRow}
use Rattle.sms_server.specs.Table.{ServerTable, IsSamePage, directory_at, heard_at, most_events}

-- What the server is told.

-- a message from a kernel to a pager, with the access 1 or 3 where it asks, and of one page where a lock is done
abbrev pub IsToServer : Message → Type 0
IsToServer (message.Init control size) = Unit {0}
IsToServer (message.Create control size) = Unit {0}
IsToServer (message.Request control page access) = (access ≡ 1) ⊎ (access ≡ 3)
IsToServer (message.Unlock control page access) = Unit {0}
IsToServer (message.Return control page dirty keep bytes) = Unit {0}
IsToServer (message.Completed control page count) = count ≡ 1
IsToServer (message.Terminate control) = Unit {0}
IsToServer (message.Changed control cache strategy) = Unit {0}
IsToServer m = ⊥

-- a page that is returned has so many bytes
abbrev pub ReturnsWhole : ℕ → Message → Type 0
ReturnsWhole size (message.Return control page dirty keep bytes) = length bytes ≡ size
ReturnsWhole size m = Unit {0}

-- the message speaks of the page, alone or with all pages of its object
abbrev pub IsAbout : ℕ → Message → Type 0
IsAbout p (message.Request control page access) = (page.0 ≡ p) × ((access ≡ 1) ⊎ (access ≡ 3))
IsAbout p (message.Unlock control page access) = page.0 ≡ p
IsAbout p (message.Return control page dirty keep bytes) = page.0 ≡ p
IsAbout p (message.Completed control page count) = (page.0 ≡ p) × (count ≡ 1)
IsAbout p (message.Terminate control) = Unit {0}
IsAbout p m = ⊥

-- the control of a host ends
abbrev pub IsEnd : Message → Type 0
IsEnd (message.Terminate control) = Unit {0}
IsEnd m = ⊥

-- the message speaks of one page
abbrev pub IsOfOnePage : Message → Type 0
IsOfOnePage (message.Terminate control) = ⊥
IsOfOnePage m = Unit {0}

-- One page.

-- what a word of a host changes in the page's directory, before the line is served
abbrev pub changed_by : ℕ → UpWord → Directory → Directory
changed_by h (Asking control access) d = requested h access d
changed_by h (Unlocking access) d = unlock_heard h d
changed_by h (Returning dirty keep bytes) d = saved h keep bytes d
changed_by h (Doing control count) d = finished h d
changed_by h (Ending control) d = ended h d
changed_by h OtherUp d = d

-- the line is served as far as it goes
abbrev pub serving : Directory → Outcome
serving d = served [] d.holds d.awaits d.bytes d.line

-- the replies to a word of a host, the newest first
abbrev pub replies_to : ℕ → UpWord → Directory → List Reply
replies_to h OtherUp d = []
replies_to h word d = (serving (changed_by h word d)).replies

-- the directory after a word of a host; the words of other pages leave it
abbrev pub DirectoryAfter : ℕ → UpWord → Directory → Directory → Type 0
DirectoryAfter h OtherUp old new = IsSame old new
DirectoryAfter h word old new = IsServedDirectory (changed_by h word old) new (replies_to h word old)

-- the control of the last request from each host
abbrev pub heard_by : ℕ → UpWord → (ℕ → ℕ) → ℕ → ℕ
heard_by h (Asking control access) heard g = if h == g then control else heard g
heard_by h word heard g = heard g

abbrev pub heard_row : ℕ → UpWord → List ℕ → List ℕ
heard_row h (Asking control access) heard = slice_set heard h control
heard_row h word heard = heard

-- The events that send the replies.

-- a message is sent to a control of a host
abbrev pub sent_to : HostId → ObjectId → ℕ → Message → Event
sent_to host object control m = event.Sent (Down host object control) m

abbrev pub reply_host : Reply → HostId
reply_host (Supply host lock bytes) = host
reply_host (Flush host) = host
reply_host (CleanLock host) = host
reply_host (Unlock host) = host

-- a supply of the page's bytes; a flush and a clean lock, which want the page back if it is dirty and a reply; and a lock
-- that prohibits nothing
abbrev pub reply_message : PageNo → Reply → Message
reply_message page (Supply host lock bytes) = message.Supply page (lock_number lock) false bytes
reply_message page (Flush host) = message.Lock page 1 1 true 8 true
reply_message page (CleanLock host) = message.Lock page 1 1 false 2 true
reply_message page (Unlock host) = message.Lock page 1 0 false 0 false

-- a reply is sent to the control that the server knows of the host
abbrev pub reply_event : ObjectId → PageNo → (ℕ → ℕ) → Reply → Event
reply_event object page heard reply = sent_to (reply_host reply) object (heard (reply_host reply).0) (reply_message page reply)

abbrev pub reply_events : ObjectId → PageNo → (ℕ → ℕ) → List Reply → List Event
reply_events object page heard [] = []
reply_events object page heard (reply ∷ replies) = reply_event object page heard reply ∷ reply_events object page heard replies

-- what a message leaves of a page that it speaks of
pub record RowAfter (h : ℕ) (m : Message) (old new : PageRow) : Type 0 where
  pub key : new.key ≡ old.key
  pub directory : DirectoryAfter h (up_word old.key.page.0 m) old.directory new.directory
  pub heard : new.heard ≡ heard_row h (up_word old.key.page.0 m) old.heard

-- the events of its answer
abbrev pub row_events : ℕ → Message → PageRow → List Event
row_events h m row =
    reply_events row.key.object row.key.page (slice_index (heard_row h (up_word row.key.page.0 m) row.heard))
    (replies_to h (up_word row.key.page.0 m) row.directory)

-- All pages.

abbrev pub page_no : ℕ → PageNo
page_no p = record { 0 = p }

-- the events of a page's answer to a message of a host
abbrev pub page_events : ServerTable → ℕ → ObjectId → Message → ℕ → List Event
page_events table h object m p =
    reply_events object (page_no p) (heard_by h (up_word p m) (heard_at table object.0 p)) (replies_to h (up_word p m) (directory_at table object.0 p))

-- the events of pages, one behind the other
abbrev pub stretches : ServerTable → ℕ → ObjectId → Message → List ℕ → List Event
stretches table h object m [] = []
stretches table h object m (p ∷ ps) = stretches table h object m ps ++ page_events table h object m p

-- by rising number, from one on
abbrev pub RisesFrom : ℕ → List ℕ → Type 0
RisesFrom n [] = Unit {0}
RisesFrom n (p ∷ ps) = (n ≤ p) × RisesFrom (suc p) ps

abbrev pub is_among : ℕ → List ℕ → Bool
is_among p [] = false
is_among p (q ∷ qs) = if q == p then true else is_among p qs

-- each page answers in its turn, by rising number; those that are not named have no events
pub record AnswersInTurn (table : ServerTable) (h : ℕ) (object : ObjectId) (m : Message) (events : List Event) : Type 0 where
  pub pages : List ℕ
  pub rising : RisesFrom 0 pages
  pub silent : (p : ℕ) → is_among p pages ≡ false → page_events table h object m p ≡ []
  pub are : events ≡ stretches table h object m pages

-- the events of an answer, the newest in front
abbrev pub AnswerEvents : ServerTable → ℕ → ObjectId → Message → List Event → Type 0
AnswerEvents table h object (message.Init control size) events =
    events ≡ sent_to (record { 0 = h }) object control (message.Ready false 0) ∷ []
AnswerEvents table h object (message.Request control page access) events =
    events ≡ page_events table h object (message.Request control page access) page.0
AnswerEvents table h object (message.Unlock control page access) events =
    events ≡ page_events table h object (message.Unlock control page access) page.0
AnswerEvents table h object (message.Return control page dirty keep bytes) events =
    events ≡ page_events table h object (message.Return control page dirty keep bytes) page.0
AnswerEvents table h object (message.Completed control page count) events =
    events ≡ page_events table h object (message.Completed control page count) page.0
AnswerEvents table h object (message.Terminate control) events =
    AnswersInTurn table h object (message.Terminate control) events
AnswerEvents table h object m events = events ≡ []

-- what a message leaves of a page of its object
pub record PageAfter (h object : ℕ) (m : Message) (page : ℕ) (old new : ServerTable) : Type 0 where
  pub directory : DirectoryAfter h (up_word page m) (directory_at old object page) (directory_at new object page)
  pub heard : (g : ℕ) → heard_at new object page g ≡ heard_by h (up_word page m) (heard_at old object page) g

-- what the server answers to a message of a host about an object, and what it leaves; the newest event stands in front
pub record ServerAnswer (h : ℕ) (object : ObjectId) (m : Message) (old new : ServerTable) (events : List Event) : Type 0 where
  pub size : new.size ≡ old.size
  pub pages : (p : ℕ) → PageAfter h object.0 m p old new
  pub others : (o p : ℕ) → o ≢ object.0 → IsSamePage o p old new
  pub told : AnswerEvents old h object m events

-- a word of the server: a supply of a whole page which at most prohibits writing, a lock of one page, or that it is ready
abbrev pub IsServerWord : ℕ → Message → Type 0
IsServerWord size (message.Supply page lock precious bytes) = ((lock ≡ 0) ⊎ (lock ≡ 2)) × (precious ≡ false) × (length bytes ≡ size)
IsServerWord size (message.Lock page count returns flush lock reply) = count ≡ 1
IsServerWord size (message.Ready cache strategy) = (cache ≡ false) × (strategy ≡ 0)
IsServerWord size m = ⊥

abbrev pub SendsWord : ℕ → ObjectId → Event → Type 0
SendsWord size object (event.Sent (Down host about control) m) = (about ≡ object) × IsServerWord size m
SendsWord size object e = ⊥

-- each event sends a word of the server for the object
abbrev pub AreServerWords : ℕ → ObjectId → List Event → Type 0
AreServerWords size object [] = Unit {0}
AreServerWords size object (e ∷ events) = SendsWord size object e × AreServerWords size object events

-- the most events of the answer to a message about an object: the most replies of the page that it speaks of, those of all pages where a control ends,
-- and one to an init
abbrev pub most_told : ℕ → Message → ServerTable → ℕ
most_told object (message.Init control size) table = 1
most_told object (message.Request control page access) table = most_replies (directory_at table object page.0)
most_told object (message.Unlock control page access) table = most_replies (directory_at table object page.0)
most_told object (message.Return control page dirty keep bytes) table = most_replies (directory_at table object page.0)
most_told object (message.Completed control page count) table = most_replies (directory_at table object page.0)
most_told object (message.Terminate control) table = most_events object table
most_told object m table = 0
