-- The causes of what an access does: in the history in front of it stands what its event wants.
use Rattle.vm_kernel.proofs.Common.{Comes, Command, Event, Header, Ids, IsAt, List, Matches, ObjectId, ObjectRow, Outside, PageKey, PageRow, Parts, RegionRow}
use Rattle.vm_kernel.proofs.Common.{Some, Suffice, TaskId, Up, Waits, Want, Works, [], access_in, address_in, ap, arith, desired_access, entries_of, entry_at}
use Rattle.vm_kernel.proofs.Common.{false, in_use, object_at, region_at}
use Rattle.vm_kernel.proofs.Common.{host_id, if◌then◌else◌, inl, inr, is_store, little_endian, named, nat_tests, number_at, page_at, page_in, page_of, refl}
use Rattle.vm_kernel.proofs.Common.{region_of, slice_range, subst, suc, sym, true, zero, ℕ, ◌%◌, ◌+◌, ◌==◌, ◌∙◌, ◌∷◌, ◌≡◌, ◌≤◌}
use Rattle.vm_fault.specs.Walks.{Finds, MayCome, Sinks, WalksTo, is_storing, wanted_number}
use Rattle.vm_kernel.proofs.steps.EventsGrow.{Follows}
use Rattle.vm_fault.specs.Walks.{keeps_out}
use Rattle.vm_state.proofs.Locks.{free_number, open_number, storing_is}
use Rattle.vm_kernel.proofs.steps.WhereAccessLeads.{Leads, it_waits, top_at}
use Rattle.vm_kernel.proofs.abroad.OwnEvents.{own_lives, own_named}
use Rattle.vm_legal.specs.Walks.{Below, IsTop}
use Rattle.vm_legal.specs.Pushes.{OwesPush}
use Rattle.vm_model.specs.Regions.{Region, backing_of}
use Rattle.vm_model.specs.Waiting.{Loading, Storing}
use Rattle.vm_model.specs.declared.event.Event.TheVariants as event
use Rattle.vm_model.specs.declared.message.Message.TheVariants as message
use Rattle.vm_objects.specs.declared.row.PagerState.TheVariants as state
use Rattle.vm_legal.proofs.Served.{later_paged as paged_temporary}
use Rattle.vm_state.proofs.Declared.{marked_temporary}
use Rattle.vm_state.proofs.Referring.{top_counted}
use Rattle.vm_fault.specs.Faults.{has_one}
use Rattle.vm_legal.specs.Licences.{Finding, IsTopAlone, Pushing, Unmarks}
use Rattle.vm_kernel.proofs.memory.TopAlone.{alone_told, shared_told}
use Rattle.vm_supply.specs.declared.woken.Woken.TheVariants as woken
use Rattle.vm_state.proofs.Shown.{IsShown, may_ask, misses, shows_row}
use Rattle.vm_state.proofs.Walks.{sinks_of, walks_of}
use Rattle.vm_waits.specs.declared.waiting.Want.TheVariants as want
use Rattle.std.specs.Prelude.{◌⊎◌}
use Rattle.vm_legal.specs.Licences.{Shadows}
use Rattle.vm_kernel.proofs.Common.{Bool, None, RegionId, row_at, ◌&&◌, ◌||◌}
use Rattle.vm_base.specs.declared.ids.Lock.{Lock}

-- a load, and a store, as the history has it

abbrev pub load_waits : (header : Header) (h : ℕ) (past : List Event) (k : Parts) (task : ℕ) (what : Want) (top : PageKey)
    (at : IsAt k.maps k.chains task what top) (address size : ℕ) → Leads header h past k task what top at → what ≡ want.Load address size
    → Waits header task (Loading address size) past
load_waits header h past k task what top at address size to is =
    record {
      waits = to.waits ∙ ap (λ z. Some (access_in k.maps.size to.destination z)) is;
      at =
          record {
            host = h;
            entry = at.entry;
            lives = to.lives;
            found = ap (λ z. entry_at (address_in k.maps.size z) (entries_of header.size task past)) (sym is) ∙ to.found;
          };
      left = tt;
    }

abbrev pub store_waits : (header : Header) (h : ℕ) (past : List Event) (k : Parts) (task : ℕ) (what : Want) (top : PageKey)
    (at : IsAt k.maps k.chains task what top) (address size value : ℕ) → Leads header h past k task what top at → what ≡ want.Store address size value
    → Waits header task (Storing address size value) past
store_waits header h past k task what top at address size value to is =
    record {
      waits = to.waits ∙ ap (λ z. Some (access_in k.maps.size to.destination z)) is;
      at =
          record {
            host = h;
            entry = at.entry;
            lives = to.lives;
            found = ap (λ z. entry_at (address_in k.maps.size z) (entries_of header.size task past)) (sym is) ∙ to.found;
          };
      left = tt;
    }

-- the top place of its page
top_is : (header : Header) (h : ℕ) (past : List Event) (k : Parts) (task : ℕ) (what other : Want) (top : PageKey) (at : IsAt k.maps k.chains task what top)
    → Leads header h past k task what top at → what ≡ other
    → IsTop (region_of header at.entry.region.0 past) (page_at header.size (address_in k.maps.size other) at.entry) top.object.0 top.page.0
top_is header h past k task what other top at to is =
    subst (λ (z : Want). IsTop (region_of header at.entry.region.0 past) (page_at header.size (address_in k.maps.size z) at.entry) top.object.0 top.page.0) is
    to.is_top

-- how far its walk comes
abbrev pub comes_at : (header : Header) (h : ℕ) (past : List Event) (k : Parts) (task : ℕ) (what : Want) (top : PageKey)
    (at : IsAt k.maps k.chains task what top) → (to : Leads header h past k task what top at) → IsShown header h k.memory k.chains past
    → (n : ℕ) (key : PageKey)
    → WalksTo k.memory k.chains n top key → Comes header h at.entry.region.0 (page_of header task (access_in k.maps.size to.destination what) past at.entry)
    key.object.0 key.page.0 past
comes_at header h past k task what top at to s n key walks =
    record { top = top.object.0; top_page = top.page.0; steps = n; is_top = top_at header h past k task what top at to; walks = walks_of s n top key walks }

-- the region of a store has no mark
unmarked_of : (header : Header) (h : ℕ) (past : List Event) (k : Parts) (task : ℕ) (what : Want) (top : PageKey) (at : IsAt k.maps k.chains task what top)
    → (to : Leads header h past k task what top at) → (is_storing what ≡ true → at.row.marked ≡ false)
    → is_store (access_in k.maps.size to.destination what) ≡ true → (region_of header at.entry.region.0 past).mark ≡ false
unmarked_of header h past k task what top at to plain store = to.marks ∙ plain (sym (storing_is k.maps.size to.destination what) ∙ store)

-- a marked region is in use on its host alone
own_marked : (header : Header) (h : ℕ) (past : List Event) (k : Parts) (ids : Ids) (region : RegionId) (row : RegionRow)
    → Matches header h k ids [] past → region_at k.chains region.0 ≡ Some row → row.marked ≡ true → (g : ℕ) → in_use header g region.0 past ≡ true → g ≡ h
own_marked header h past k ids region row m there marked g used =
    let temporary = marked_temporary m.core.objects.regions m.core.spaces.homes.1 region.0 row there marked in
    m.core.spaces.homes.1.stay g h region.0 used (m.core.spaces.homes.0 region.0 row (paged_temporary header region.0 temporary) there)

-- the region of a store, whose top has another reference, gets an object of its own
pub shadow_caused : (header : Header) (h : ℕ) (past : List Event) (k : Parts) (ids : Ids) (task : TaskId) (what : Want) (top : PageKey)
    (at : IsAt k.maps k.chains task.0 what top) (object : ObjectId) (address size value : ℕ)
    → Works header h k ids woken.Nobody past → Leads header h past k task.0 what top at → what ≡ want.Store address size value → at.row.marked ≡ true
    → has_one (object_at k.memory.objects at.row.top.0) ≡ false → object.0 ≡ ids.next_object
    → Shadows header at.entry.region.0 object.0 at.row.top.0 past
shadow_caused header h past k ids task what top at object address size value works to is marked shared next =
    record {
      next = next ∙ works.matches.core.objects.regions.object;
      is_top = ap (λ (z : Region). z.top) (works.matches.core.objects.regions.rows at.entry.region.0 at.row at.region);
      marked = to.marks ∙ marked;
      task = task.0;
      address = address;
      bytes = size;
      value = value;
      waits = store_waits header h past k task.0 what top at address size value to is;
      region_is = refl;
      shared = shared_told header h k ids woken.Nobody past works at.entry.region.0 at.row at.region marked shared;
    }

pub shadowed_follows : (header : Header) (h : ℕ) (outside : Outside) (doing : Command) (past : List Event) (k : Parts) (ids : Ids) (region : RegionId)
    (object : ObjectId) (row : RegionRow)
    → Matches header h k ids [] past → region_at k.chains region.0 ≡ Some row → row.marked ≡ true → Shadows header region.0 object.0 row.top.0 past
    → Suffice header h (event.Shadowed region object row.top ∷ past) → Follows header h outside doing (event.Shadowed region object row.top) past
shadowed_follows header h outside doing past k ids region object row m there marked cause frames =
    record {
      consequence = tt;
      cause = cause;
      own_bytes = tt;
      frames = frames;
      inner = tt;
      said = tt;
      own = own_marked header h past k ids region row m there marked;
      creates = tt;
    }

-- the region of a store, which is the one reference of its top, loses its mark
pub unmark_caused : (header : Header) (h : ℕ) (past : List Event) (k : Parts) (ids : Ids) (task : TaskId) (what : Want) (top : PageKey)
    (at : IsAt k.maps k.chains task.0 what top) (address size value : ℕ)
    → Works header h k ids woken.Nobody past → Leads header h past k task.0 what top at → what ≡ want.Store address size value → at.row.marked ≡ true
    → has_one (object_at k.memory.objects at.row.top.0) ≡ true → Unmarks header at.entry.region.0 past
unmark_caused header h past k ids task what top at address size value works to is marked sole =
    let rows = works.matches.core.objects.regions in
    let r = at.entry.region.0 in
    record {
      marked = to.marks ∙ marked;
      task = task.0;
      address = address;
      bytes = size;
      value = value;
      waits = store_waits header h past k task.0 what top at address size value to is;
      region_is = refl;
      sole = subst (λ (z : ℕ). IsTopAlone header h r z past) (sym (ap (λ (z : Region). z.top) (rows.rows r at.row at.region)))
          (alone_told header h k ids woken.Nobody past works r at.row.top.0 (top_counted rows r at.row at.region sole));
    }

pub unmarked_follows : (header : Header) (h : ℕ) (outside : Outside) (doing : Command) (past : List Event) (k : Parts) (ids : Ids) (region : RegionId)
    (row : RegionRow) → Matches header h k ids [] past → region_at k.chains region.0 ≡ Some row → row.marked ≡ true → Unmarks header region.0 past
    → Suffice header h (event.Unmarked region ∷ past) → Follows header h outside doing (event.Unmarked region) past
unmarked_follows header h outside doing past k ids region row m there marked cause frames =
    record {
      consequence = tt;
      cause = cause;
      own_bytes = tt;
      frames = frames;
      inner = tt;
      said = tt;
      own = own_marked header h past k ids region row m there marked;
      creates = tt;
    }

-- a page of zeros comes
pub zeroed_follows : (header : Header) (h : ℕ) (outside : Outside) (doing : Command) (past : List Event) (k : Parts) (task : ℕ) (what : Want) (top : PageKey)
    (at : IsAt k.maps k.chains task what top) → named header ≤ top.object.0 → Leads header h past k task what top at
    → IsShown header h k.memory k.chains past → (is_storing what ≡ true → at.row.marked ≡ false) → Sinks k.memory k.chains top
    → ((depth below : ℕ) → Below (λ o. backing_of header o past) depth top.object.0 below → named header ≤ below)
    → Suffice header h (event.Zeroed (host_id h) top.object top.page ∷ past)
    → Follows header h outside doing (event.Zeroed (host_id h) top.object top.page) past
zeroed_follows header h outside doing past k task what top at temporary to s clear sinks plain frames =
    record {
      consequence = tt;
      cause = inr (record {
        task = task;
        access = access_in k.maps.size to.destination what;
        waits = it_waits header h past k task what top at to;
        on_host = refl;
        temporary = temporary;
        unmarked = unmarked_of header h past k task what top at to clear;
        is_top = top_at header h past k task what top at to;
        steps = sinks.steps;
        sinks = sinks_of s top to.referred sinks;
        plain = plain;
      });
      own_bytes = tt;
      frames = frames;
      inner = tt;
      said = tt;
      own = own_named h;
      creates = tt;
    }

-- the page may be read
pub read_at : {seen number : ℕ} → seen ≡ number → (number ≡ 0) ⊎ (number ≡ 2) → (seen ≡ 0) ⊎ (seen ≡ 2)
read_at same either = elim either [ inl none ↦ inl (same ∙ none) | inr some ↦ inr (same ∙ some) ]

-- a page is copied up for a store
pub raised_follows : (header : Header) (h : ℕ) (outside : Outside) (doing : Command) (past : List Event) (k : Parts) (task : ℕ) (what : Want) (top : PageKey)
    (at : IsAt k.maps k.chains task what top) (address size value : ℕ) (steps : ℕ) (key : PageKey) (row : PageRow)
    → Leads header h past k task what top at → IsShown header h k.memory k.chains past → what ≡ want.Store address size value → at.row.marked ≡ false
    → Finds k.memory k.chains (suc steps) top key row → keeps_out row.lock false ≡ false
    → Suffice header h (event.Raised (host_id h) key.object key.page top.object top.page ∷ past)
    → Follows header h outside doing (event.Raised (host_id h) key.object key.page top.object top.page) past
raised_follows header h outside doing past k task what top at address size value steps key row to s is clear finds open_it frames =
    let shows = shows_row s key.object.0 key.page.0 row finds.found finds.here in
    record {
      consequence = tt;
      cause = Finding (record {
        task = task;
        address = address;
        bytes = size;
        value = value;
        waits = store_waits header h past k task what top at address size value to is;
        on_host = refl;
        unmarked = to.marks ∙ clear;
        is_top = top_is header h past k task what (want.Store address size value) top at to is;
        steps = steps;
        walks = walks_of s (suc steps) top key finds.walks;
        here = shows.here;
      });
      own_bytes = record { here = shows.here; unlocked = read_at shows.lock (open_number row.lock open_it) };
      frames = frames;
      inner = tt;
      said = tt;
      own = own_named h;
      creates = tt;
    }

-- who keeps no writer out keeps no reader out
open_reader : (lock : Lock) → keeps_out lock true ≡ false → keeps_out lock false ≡ false
open_reader lock out = by lock.read out
  where
    by : (b : Bool) → (b || (true && lock.write)) ≡ false → (b || (false && lock.write)) ≡ false
    by true bad = absurd (let no : true ≡ false = bad in cc)
    by false is = refl

-- the page of a store is copied up into the copy to which it owes it
pub pushed_follows : (header : Header) (h : ℕ) (outside : Outside) (doing : Command) (past : List Event) (k : Parts) (task : ℕ) (what : Want) (top : PageKey)
    (at : IsAt k.maps k.chains task what top) (address size value : ℕ) (place : PageKey) (row : PageRow)
    → Leads header h past k task what top at → IsShown header h k.memory k.chains past → what ≡ want.Store address size value → at.row.marked ≡ false
    → Finds k.memory k.chains 0 top top row → keeps_out row.lock true ≡ false
    → OwesPush header h top.object.0 top.page.0 place.object.0 past → place.page.0 ≡ top.page.0
    → row_at k.memory.resident place.object.0 place.page.0 ≡ None
    → Suffice header h (event.Raised (host_id h) top.object top.page place.object place.page ∷ past)
    → Follows header h outside doing (event.Raised (host_id h) top.object top.page place.object place.page) past
pushed_follows header h outside doing past k task what top at address size value place row to s is clear finds open_it owes same none frames =
    let shows = shows_row s top.object.0 top.page.0 row finds.found finds.here in
    let missing = misses s place.object.0 place.page.0 none in
    record {
      consequence = tt;
      cause = Pushing (record {
        task = task;
        address = address;
        bytes = size;
        value = value;
        waits = store_waits header h past k task what top at address size value to is;
        on_host = refl;
        unmarked = to.marks ∙ clear;
        is_top = top_is header h past k task what (want.Store address size value) top at to is;
        here = shows.here;
        owes = owes;
        same_page = same;
        away = missing.away;
        unasked = missing.unasked;
      });
      own_bytes = record { here = shows.here; unlocked = read_at shows.lock (open_number row.lock (open_reader row.lock open_it)) };
      frames = frames;
      inner = tt;
      said = tt;
      own = own_named h;
      creates = tt;
    }

-- a load ends
pub loaded_follows : (header : Header) (h : ℕ) (outside : Outside) (doing : Command) (past : List Event) (k : Parts) (task : TaskId) (what : Want)
    (top : PageKey) (at : IsAt k.maps k.chains task.0 what top) (address size value : ℕ) (steps : ℕ) (key : PageKey) (row : PageRow)
    → Leads header h past k task.0 what top at → IsShown header h k.memory k.chains past → what ≡ want.Load address size
    → Finds k.memory k.chains steps top key row → keeps_out row.lock false ≡ false
    → value ≡ little_endian (slice_range (page_in k.memory.frames row.frame.0) (address % header.size) (address % header.size + size))
    → Suffice header h (event.Loaded task key.object key.page value ∷ past)
    → Follows header h outside doing (event.Loaded task key.object key.page value) past
loaded_follows header h outside doing past k task what top at address size value steps key row to s is finds open_it number frames =
    let shows = shows_row s key.object.0 key.page.0 row finds.found finds.here in
    let waits = load_waits header h past k task.0 what top at address size to is in
    record {
      consequence = tt;
      cause = record {
        address = address;
        bytes = size;
        waits = waits;
        comes =
            record {
              top = top.object.0;
              top_page = top.page.0;
              steps = steps;
              is_top = top_is header h past k task.0 what (want.Load address size) top at to is;
              walks = walks_of s steps top key finds.walks;
            };
        here = shows.here;
      };
      own_bytes = record {
        address = address;
        bytes = size;
        waits = waits;
        readable = record { here = shows.here; unlocked = read_at shows.lock (open_number row.lock open_it) };
        number = number ∙ ap (λ z. number_at z header.size address size) (sym shows.bytes);
      };
      frames = frames;
      inner = tt;
      said = tt;
      own = own_lives h task.0 past to.lives;
      creates = tt;
    }

-- a store ends
pub stored_follows : (header : Header) (h : ℕ) (outside : Outside) (doing : Command) (past : List Event) (k : Parts) (task : TaskId) (what : Want)
    (top : PageKey) (at : IsAt k.maps k.chains task.0 what top) (address size value : ℕ) (row : PageRow)
    → Leads header h past k task.0 what top at → IsShown header h k.memory k.chains past → what ≡ want.Store address size value → at.row.marked ≡ false
    → Finds k.memory k.chains 0 top top row → keeps_out row.lock true ≡ false
    → ((copy : ℕ) → OwesPush header h top.object.0 top.page.0 copy past → ⊥)
    → Suffice header h (event.Stored task top.object top.page (address % header.size) size value ∷ past)
    → Follows header h outside doing (event.Stored task top.object top.page (address % header.size) size value) past
stored_follows header h outside doing past k task what top at address size value row to s is clear finds open_it paid frames =
    let shows = shows_row s top.object.0 top.page.0 row finds.found finds.here in
    let waits = store_waits header h past k task.0 what top at address size value to is in
    record {
      consequence = tt;
      cause = record {
        address = address;
        waits = waits;
        is_top = top_is header h past k task.0 what (want.Store address size value) top at to is;
        unmarked = to.marks ∙ clear;
        here = shows.here;
        place = refl;
        paid = paid;
      };
      own_bytes = record {
        address = address;
        waits = waits;
        writable = record { here = shows.here; unlocked = shows.lock ∙ free_number row.lock open_it };
        place = refl;
      };
      frames = frames;
      inner = tt;
      said = tt;
      own = own_lives h task.0 past to.lives;
      creates = tt;
    }

-- a request asks for what the history wants asked
pub asks_for : (size to : ℕ) (what : Want) (steps : ℕ) → wanted_number what steps ≡ desired_access (access_in size to what) steps
asks_for size to (want.Load address n) zero = refl
asks_for size to (want.Load address n) (suc steps) = refl
asks_for size to (want.CopyTo address pages target next) zero = refl
asks_for size to (want.CopyTo address pages target next) (suc steps) = refl
asks_for size to (want.Store address n value) zero = refl
asks_for size to (want.Store address n value) (suc steps) = ap (λ b. if b then 3 else 1) (later steps)
  where
    later : (n : ℕ) → (suc n == 0) ≡ false
    later n = grind (arith, nat_tests)

-- a page is asked for
pub request_follows : (header : Header) (h : ℕ) (outside : Outside) (doing : Command) (past : List Event) (k : Parts) (task : ℕ) (what : Want) (top : PageKey)
    (at : IsAt k.maps k.chains task what top) (steps : ℕ) (key : PageKey) (object : ObjectRow)
    → Leads header h past k task what top at → IsShown header h k.memory k.chains past → (is_storing what ≡ true → at.row.marked ≡ false)
    → MayCome k.memory k.chains steps top key object → object.state ≡ state.Ready
    → Suffice header h (event.Sent (Up (host_id h) key.object) (message.Request object.control key.page (wanted_number what steps)) ∷ past)
    → Follows header h outside doing (event.Sent (Up (host_id h) key.object) (message.Request object.control key.page (wanted_number what steps))) past
request_follows header h outside doing past k task what top at steps key object to s clear comes ready frames =
    let may = may_ask s steps top key object comes ready in
    record {
      consequence = tt;
      cause = record {
        task = task;
        access = access_in k.maps.size to.destination what;
        waits = it_waits header h past k task what top at to;
        on_host = refl;
        unmarked = unmarked_of header h past k task what top at to clear;
        comes = comes_at header h past k task what top at to s steps key comes.walks;
        number = asks_for k.maps.size to.destination what steps;
        live = may.live;
        ready = may.ready;
        away = may.away;
        unasked = may.unasked;
        known = may.known;
      };
      own_bytes = tt;
      frames = frames;
      inner = tt;
      said = refl;
      own = own_named h;
      creates = tt;
    }
