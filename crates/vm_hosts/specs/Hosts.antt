-- The kernels of all hosts stand for a history.
use Rattle.std.specs.Prelude.{ℕ, suc, ◌+◌, ◌≡◌, ◌<◌, ◌≤◌, ◌==◌, ◌||◌, Bool, false, true, List, [], ◌∷◌, length, Option, Some, None, slice_get, if◌then◌else◌}
use Rattle.vm_base.specs.declared.ids.HostId.{HostId}
use Rattle.vm_model.specs.declared.event.Event.{Event}
use Rattle.vm_model.specs.declared.script.Header.{Header}
use Rattle.vm_model.specs.Homes.{home_of}
use Rattle.vm_model.specs.Tasks.{host_of}
use Rattle.vm_legal.specs.Outside.{is_file_kind}
use Rattle.vm_objects.specs.declared.row.ObjectRow.{ObjectRow}
use Rattle.vm_abroad.specs.Sound.{Sound}
use Rattle.vm_shadow.specs.declared.ids.Ids.{Ids}
use Rattle.vm_kernel.specs.Matches.{IsRanged, Rests, first_ids}
use Rattle.vm_kernel.specs.declared.breadth.Breadth.{Breadth}
use Rattle.vm_kernel.specs.Rooms.{CanServeOn, IsReady as IsReadyOn, has_queue, most, own_dues}
use Rattle.vm_kernel.specs.Serving.{HasQueue}
use Rattle.vm_kernel.specs.declared.parts.Parts.{Parts}

-- the kernels by the numbers of their hosts, and the next numbers of regions and objects, which they have in common
pub record HostTable : Type 0 where
  pub kernels : List Parts
  pub ids : Ids

-- the object is known, and it is a file
abbrev pub knows_file : Option ObjectRow → Bool
knows_file None = false
knows_file (Some known) = is_file_kind known.kind

-- there is one for each host of the header, which stands for the history
pub record AllRest (header : Header) (hosts : HostTable) (past : List Event) : Type 0 where
  pub ranged : IsRanged header
  pub count : length hosts.kernels ≡ length header.frames.items
  pub rests : (h : ℕ) (k : Parts) → slice_get hosts.kernels h ≡ Some k → Rests header h k hosts.ids past
  pub sound : Sound header past
  pub tasks : (task h : ℕ) → host_of task past ≡ Some h → h < length header.frames.items
  pub homes : (r h : ℕ) → home_of r past ≡ Some h → h < length header.frames.items

-- their frame queues go no further
abbrev pub AllQueued : Header → HostTable → List Event → Type 0
AllQueued header hosts past = (h : ℕ) (k : Parts) → slice_get hosts.kernels h ≡ Some k → HasQueue header h k past

-- the kernels of so many hosts, before anything has happened
pub record AreNew (header : Header) (number : ℕ) (kernels : List Parts) : Type 0 where
  pub count : length kernels ≡ number
  pub rests : (h : ℕ) (k : Parts) → slice_get kernels h ≡ Some k → Rests header h k (first_ids header) []
  pub queues : (h : ℕ) (k : Parts) → slice_get kernels h ≡ Some k → HasQueue header h k []

-- the host acts in a step
abbrev pub acts_in : Option HostId → ℕ → Bool
acts_in None h = false
acts_in (Some acting) h = acting.0 == h

-- a host takes part in a step: it acts, or somebody waits for a frame there
abbrev pub takes_part : Option HostId → ℕ → Parts → Bool
takes_part acting h k = acts_in acting h || has_queue k

-- how many events a host adds to a step at most
abbrev pub most_on : Option HostId → Breadth → ℕ → Parts → ℕ
most_on acting breadth h k = if takes_part acting h k then most breadth k else 0

-- how many these add, of which the first has this number
abbrev pub most_from : Option HostId → Breadth → ℕ → List Parts → ℕ
most_from acting breadth h [] = 0
most_from acting breadth h (k ∷ ks) = most_on acting breadth h k + most_from acting breadth (suc h) ks

-- there is room for a step of so many events at most: in the tables of each host that takes part, and in a log with so much room
pub record IsReady (acting : Option HostId) (breadth : Breadth) (events : ℕ) (hosts : HostTable) (space : ℕ) : Type 0 where
  pub each : (h : ℕ) (k : Parts) → slice_get hosts.kernels h ≡ Some k → takes_part acting h k ≡ true → IsReadyOn breadth k
  pub enough : most_from acting breadth 0 hosts.kernels ≤ events
  pub room : events ≤ space

-- what is still to be told where all hosts serve their queues
abbrev pub sum_of_dues : List Parts → ℕ
sum_of_dues [] = 0
sum_of_dues (k ∷ ks) = own_dues k + sum_of_dues ks

-- there is room for all hosts to serve theirs: in the tables of each where somebody stands in it, and in a log with so much room
pub record CanServe (hosts : HostTable) (space : ℕ) : Type 0 where
  pub each : (h : ℕ) (k : Parts) → slice_get hosts.kernels h ≡ Some k → has_queue k ≡ true → CanServeOn k
  pub room : sum_of_dues hosts.kernels ≤ space
