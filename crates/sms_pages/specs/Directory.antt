-- A page's directory, and the rules by which it answers.
use Rattle.std.specs.Prelude.{ℕ, zero, suc, ◌≡◌, ◌+◌, ◌==◌, ◌&&◌, ◌||◌, Bool, true, false, not, if◌then◌else◌, nat_lt, List, [], ◌∷◌, ◌++◌, length, replicate}
use Rattle.std.specs.Prelude.{slice_index, slice_set}
use Rattle.vm_base.specs.Limits.{most_hosts}
use Rattle.std.specs.List.{list_all}
use Rattle.vm_base.specs.declared.ids.Access.{Access}
use Rattle.vm_base.specs.declared.ids.Access.TheVariants.{Load, Store}
use Rattle.vm_model.specs.Server.{Wanting, wants_write}
use Rattle.sms_pages.specs.declared.holding.Turn.{Turn}
use Rattle.sms_pages.specs.declared.holding.Turn.TheVariants.{Leaves, Recalls, Waits, Grants}
use Rattle.sms_pages.specs.declared.reply.Reply.{Reply}
use Rattle.sms_pages.specs.declared.reply.Reply.TheVariants.{Supply, Flush, CleanLock, Unlock}

pub record Directory : Type 0 where
  -- what each of eight hosts holds: 0 nothing, 1 Read, 2 Write
  pub holds : List ℕ
  -- whether it is awaited: 0 no, 1 for a clean lock, 2 for a flush
  pub awaits : List ℕ
  -- those who want the page, the first in front
  pub line : List Wanting
  pub bytes : List ℕ
  -- the next call has the memory that it takes
  pub prepared : Bool

abbrev pub wanted_access : Access → ℕ
wanted_access Load = 1
wanted_access Store = 3

-- What each message changes, before the front is served.

abbrev pub requested : ℕ → ℕ → Directory → Directory
requested host access d =
    record d { holds = slice_set d.holds host 0; line = d.line ++ record { host = host; upgrade = false; access = access } ∷ [] }

-- an unlock counts only from a host that holds Read and isn't awaited
abbrev pub unlock_heard : ℕ → Directory → Directory
unlock_heard host d =
    record d {
      line =
          if slice_index d.holds host == 1 && slice_index d.awaits host == 0 then d.line ++ record { host = host; upgrade = true; access = 3 } ∷ [] else d.line;
    }

abbrev pub saved : ℕ → Bool → List ℕ → Directory → Directory
saved host keep bytes d = record d { holds = if keep then d.holds else slice_set d.holds host 0; bytes = bytes }

-- after a flush the host holds nothing; after a clean lock Write becomes Read
abbrev pub left_by : ℕ → ℕ → ℕ
left_by zero holds = holds
left_by (suc zero) holds = if holds == 2 then 1 else holds
left_by (suc (suc n)) holds = 0

abbrev pub finished : ℕ → Directory → Directory
finished host d =
    record d {
      holds = slice_set d.holds host (left_by (slice_index d.awaits host) (slice_index d.holds host));
      awaits = slice_set d.awaits host 0;
    }

abbrev pub ended : ℕ → Directory → Directory
ended host d = record d { holds = slice_set d.holds host 0; awaits = slice_set d.awaits host 0 }

-- the end of the host's control changes nothing: it holds nothing and isn't awaited, and nobody stands in line
abbrev pub is_idle : ℕ → Directory → Bool
is_idle host d = length d.line == 0 && slice_index d.holds host == 0 && slice_index d.awaits host == 0

-- How the line is served.

-- another holder, not awaited, is recalled: to read only one that can write
abbrev pub is_recalled : Wanting → ℕ → ℕ → ℕ → Bool
is_recalled w host holds awaits =
    not (host == w.host) && (awaits == 0 && (if wants_write w then nat_lt 0 holds else holds == 2))

abbrev pub recall_kind : Wanting → ℕ
recall_kind w = if wants_write w then 2 else 1

abbrev pub recall : Wanting → ℕ → Reply
recall w host = if wants_write w then Flush (record { 0 = host }) else CleanLock (record { 0 = host })

-- the recalls of the hosts below n, by rising host, the newest first
abbrev pub recalls : Wanting → List ℕ → List ℕ → ℕ → List Reply
recalls w holds awaits zero = []
recalls w holds awaits (suc n) =
    if is_recalled w n (slice_index holds n) (slice_index awaits n) then recall w n ∷ recalls w holds awaits n else recalls w holds awaits n

-- the hosts below n that are recalled are awaited
abbrev pub recalled : Wanting → List ℕ → List ℕ → ℕ → List ℕ
recalled w holds awaits zero = awaits
recalled w holds awaits (suc n) =
    if is_recalled w n (slice_index holds n) (slice_index awaits n) then slice_set (recalled w holds awaits n) n (recall_kind w) else recalled w holds awaits n

-- a host gets the page with writing prohibited, or with nothing prohibited; one that has it already gets it unlocked
abbrev pub grant : Wanting → List ℕ → Reply
grant w bytes =
    if w.upgrade
    then Unlock (record { 0 = w.host })
    else Supply (record { 0 = w.host }) (record { read = false; write = not (wants_write w) }) bytes

abbrev pub granted : Wanting → ℕ
granted w = if wants_write w then 2 else 1

-- a host below n is recalled
abbrev pub any_recalled : Wanting → List ℕ → List ℕ → ℕ → Bool
any_recalled w holds awaits zero = false
any_recalled w holds awaits (suc n) =
    any_recalled w holds awaits n || is_recalled w n (slice_index holds n) (slice_index awaits n)

-- an upgrade whose host no longer holds Read leaves without a word
abbrev pub leaves : Wanting → List ℕ → Bool
leaves w holds = w.upgrade && not (slice_index holds w.host == 1)

-- what the front's turn comes to
abbrev pub turn : Wanting → List ℕ → List ℕ → Turn
turn w holds awaits =
    if leaves w holds then Leaves
    else if any_recalled w holds awaits most_hosts then Recalls
    else if list_all (λ kind. kind == 0) awaits then Grants
    else Waits

-- what serving leaves, and the replies, the newest first
pub record Outcome : Type 0 where
  pub holds : List ℕ
  pub awaits : List ℕ
  pub line : List Wanting
  pub replies : List Reply

-- the line is served as far as it goes, behind the replies that were sent before
abbrev pub served : List Reply → List ℕ → List ℕ → List ℕ → List Wanting → Outcome
served sent holds awaits bytes [] = record { holds = holds; awaits = awaits; line = []; replies = sent }
served sent holds awaits bytes (w ∷ ws) = elim (turn w holds awaits) [
  | Leaves ↦ served sent holds awaits bytes ws
  | Recalls ↦ record { holds = holds; awaits = recalled w holds awaits most_hosts; line = w ∷ ws; replies = recalls w holds awaits most_hosts ++ sent }
  | Waits ↦ record { holds = holds; awaits = awaits; line = w ∷ ws; replies = sent }
  | Grants ↦ served (grant w bytes ∷ sent) (slice_set holds w.host (granted w)) awaits bytes ws
]

-- the directory and the replies after a call that changed it so
pub record IsServedDirectory (changed after : Directory) (replies : List Reply) : Type 0 where
  pub exact : record { holds = after.holds; awaits = after.awaits; line = after.line; replies = replies } ≡ served [] changed.holds changed.awaits changed.bytes
      changed.line
  pub bytes : after.bytes ≡ changed.bytes

-- the same but for the memory at hand
pub record IsSame (before after : Directory) : Type 0 where
  pub holds : after.holds ≡ before.holds
  pub awaits : after.awaits ≡ before.awaits
  pub line : after.line ≡ before.line
  pub bytes : after.bytes ≡ before.bytes

-- the most replies that the next call can give: one for each that then waits, and a recall of each host
abbrev pub most_replies : Directory → ℕ
most_replies d = length d.line + 9

-- of a page of so many zeros, which nobody holds or wants
pub record IsNewDirectory (size : ℕ) (d : Directory) : Type 0 where
  pub holds : d.holds ≡ replicate most_hosts 0
  pub awaits : d.awaits ≡ replicate most_hosts 0
  pub line : d.line ≡ []
  pub bytes : d.bytes ≡ replicate size 0
