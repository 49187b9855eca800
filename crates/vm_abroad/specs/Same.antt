-- What a host's kernel stands for reads the same at two moments.
use Rattle.std.specs.Prelude.{ℕ, ◌≤◌, ◌<◌, ◌≡◌, true, List, ◌++◌}
use Rattle.vm_model.specs.declared.event.Event.{Event}
use Rattle.vm_model.specs.declared.script.Header.{Header}
use Rattle.vm_model.specs.Controls.{last_control, live_control}
use Rattle.vm_model.specs.Homes.{home_of}
use Rattle.vm_model.specs.Local.{Place, is_on, local}
use Rattle.vm_model.specs.Named.{named}
use Rattle.vm_model.specs.Regions.{backing_of, is_copy, newest_copy, next_object, next_region, object_pages, region_of}
use Rattle.vm_model.specs.Tasks.{entries_of, host_of}
use Rattle.vm_model.specs.Waiting.{copy_target, next_page, waiting}
use Rattle.vm_legal.specs.Accesses.{begun_at, is_ready}
use Rattle.vm_legal.specs.Cached.{is_cached}
use Rattle.vm_legal.specs.Frames.{frames_held, frames_wired, returns_out}
use Rattle.vm_legal.specs.Homes.{is_used}
use Rattle.vm_legal.specs.Living.{lives_on, tasks}
use Rattle.vm_legal.specs.Pushes.{is_pushed}
use Rattle.vm_abroad.specs.Sound.{IsObjectOf, IsRegionOf, Knows, Sound}

-- a task, its entries and its access
pub record SameTask (size task : ℕ) (old new : List Event) : Type 0 where
  pub host : host_of task new ≡ host_of task old
  pub entries : entries_of size task new ≡ entries_of size task old
  pub waiting : waiting task new ≡ waiting task old
  pub next : next_page task new ≡ next_page task old
  pub begun : begun_at task new ≡ begun_at task old
  pub target : copy_target task new ≡ copy_target task old

-- the pages, controls and frames of a host, and which copies have got their pages there
pub record SamePages (header : Header) (h : ℕ) (old new : List Event) : Type 0 where
  pub local : (place : Place) → local header h place new ≡ local header h place old
  pub live : (o : ℕ) → live_control h o new ≡ live_control h o old
  pub last : (o : ℕ) → last_control h o new ≡ last_control h o old
  pub ready : (o : ℕ) → is_ready h o new ≡ is_ready h o old
  pub cached : (o : ℕ) → is_cached h o new ≡ is_cached h o old
  pub held : frames_held header h new ≡ frames_held header h old
  pub wired : frames_wired h new ≡ frames_wired h old
  pub out : returns_out h new ≡ returns_out h old
  pub pushed : (o page : ℕ) → is_pushed h o page new ≡ is_pushed h o page old

-- tasks may be made, elsewhere
pub record MoreTasks (old new : List Event) : Type 0 where
  pub made : List ℕ
  pub is : tasks new ≡ made ++ tasks old

-- the tasks of the host are the same, and so are the regions that it uses; numbers may have been given to others
pub record SameFacts (header : Header) (h : ℕ) (old new : List Event) : Type 0 where
  pub pages : SamePages header h old new
  pub lives : (task : ℕ) → lives_on h task new ≡ lives_on h task old
  pub task : (task : ℕ) → lives_on h task old ≡ true → SameTask header.size task old new
  pub made : MoreTasks old new
  pub regions : next_region header old ≤ next_region header new
  pub objects : next_object header old ≤ next_object header new
  pub used : (r : ℕ) → named header ≤ r → is_used header h r new ≡ is_used header h r old
  pub region : (r : ℕ) → r < next_region header old → IsRegionOf header h r old → region_of header r new ≡ region_of header r old
  pub home : (o : ℕ) → IsObjectOf header h o old → IsObjectOf header h o new
  pub backing : (o : ℕ) → o < next_object header old → IsObjectOf header h o old → backing_of header o new ≡ backing_of header o old
  pub sizes : (o : ℕ) → o < next_object header old → object_pages header o new ≡ object_pages header o old
  pub files : (r : ℕ) → is_on h (home_of r new) ≡ is_on h (home_of r old)
  pub newest : (file : ℕ) → is_on h (home_of file old) ≡ true → newest_copy file new ≡ newest_copy file old
  pub copies : (o : ℕ) → o < next_object header old → is_copy o new ≡ is_copy o old

-- Nothing of it has changed for a host, whose tables say as much as before
pub record SameForHost (header : Header) (h : ℕ) (old new : List Event) : Type 0 where
  pub same : SameFacts header h old new
  pub sound : Sound header new
  pub knows : Knows header h new
