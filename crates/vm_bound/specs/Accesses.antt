-- What the accesses that wait may still send, beside what the places of their pages count.
use Rattle.std.specs.Prelude.{ℕ, zero, suc, ◌+◌, ◌-◌, ◌*◌, ◌/◌, ◌==◌, ◌&&◌, ◌||◌, not, Bool, true, false, List, Option, Some, None, if◌then◌else◌, nat_lt}
use Rattle.vm_base.specs.Entries.{entry_at, page_at}
use Rattle.vm_base.specs.Limits.{most_tasks}
use Rattle.vm_base.specs.declared.entry.Entry.{Entry}
use Rattle.vm_bound.specs.Letters.{host_count, wish_weight}
use Rattle.vm_bound.specs.Lines.{sum_below}
use Rattle.vm_legal.specs.Living.{lives_on}
use Rattle.vm_legal.specs.Outside.{is_shared}
use Rattle.vm_legal.specs.Walks.{page_on}
use Rattle.vm_model.specs.Local.{Local}
use Rattle.vm_model.specs.Regions.{Backing, backing_of, next_object, region_of}
use Rattle.vm_model.specs.Tasks.{entries_of, host_of}
use Rattle.vm_model.specs.Waiting.{Access, Copying, Loading, Storing, address_of, is_store, next_page, waiting}
use Rattle.vm_model.specs.declared.event.Event.{Event}
use Rattle.vm_model.specs.declared.script.Header.{Header}

-- how many objects are below one in its chain; the first number is at least as great
abbrev pub depth_below : (ℕ → Backing) → ℕ → ℕ → ℕ
depth_below backings zero o = 0
depth_below backings (suc n) o = if (backings o).backed then suc (depth_below backings n (backings o).under) else 0

-- the place is one of those of the chain from one on; so many are looked at
abbrev pub chain_has : (ℕ → Backing) → ℕ → ℕ → ℕ → ℕ → ℕ → Bool
chain_has backings zero top top_page o p = false
chain_has backings (suc n) top top_page o p =
    (top == o && top_page == p) || ((backings top).backed && chain_has backings n (backings top).under ((backings top).shift + top_page) o p)

-- where an access is now: the entry that its page is in
abbrev pub led : Header → ℕ → Access → List Event → Option Entry
led header task access past = entry_at (address_of header.size (next_page task past) access) (entries_of header.size task past)

-- the page of its region that it is about now
abbrev pub page_led : Header → ℕ → Access → List Event → Entry → ℕ
page_led header task access past entry = page_at header.size (address_of header.size (next_page task past) access) entry

-- the place is one of those of the page of its region that the access is about
abbrev pub has_place : Header → ℕ → Access → ℕ → ℕ → Option Entry → List Event → Bool
has_place header task access o p None past = false
has_place header task access o p (Some entry) past =
    chain_has (λ k. backing_of header k past) (next_object header past) (region_of header entry.region.0 past).top
    ((region_of header entry.region.0 past).shift + page_led header task access past entry) o p

-- the pages that an access has left, the present one counted
abbrev pub pages_left : ℕ → Access → ℕ → ℕ
pages_left size (Loading address bytes) next = 1
pages_left size (Storing address bytes value) next = 1
pages_left size (Copying address bytes to) next = bytes / size - next

-- the task waits on the host with such an access, which has a page left, and is about a page of this place
abbrev pub wants_as : Header → (Access → Bool) → ℕ → ℕ → ℕ → ℕ → Option Access → List Event → Bool
wants_as header such task h o p None past = false
wants_as header such task h o p (Some access) past =
    such access && (lives_on h task past && (nat_lt 0 (pages_left header.size access (next_page task past))
    && has_place header task access o p (led header task access past) past))

abbrev pub wants : Header → (Access → Bool) → ℕ → ℕ → ℕ → ℕ → List Event → Bool
wants header such task h o p past = wants_as header such task h o p (waiting task past) past

-- some task below a number does
abbrev pub any_wants : Header → (Access → Bool) → ℕ → ℕ → ℕ → ℕ → List Event → Bool
any_wants header such zero h o p past = false
any_wants header such (suc task) h o p past = wants header such task h o p past || any_wants header such task h o p past

abbrev pub is_wanted : Header → ℕ → ℕ → ℕ → List Event → Bool
is_wanted header h o p past = any_wants header (λ access. true) most_tasks h o p past

-- the access stores into the page of the region
abbrev pub leads_at : Header → ℕ → Access → ℕ → ℕ → Option Entry → List Event → Bool
leads_at header task access o p None past = false
leads_at header task access o p (Some entry) past = entry.region.0 == o && page_led header task access past entry == p

abbrev pub writes_as : Header → ℕ → ℕ → ℕ → ℕ → Option Access → List Event → Bool
writes_as header task h o p None past = false
writes_as header task h o p (Some access) past = is_store access && (lives_on h task past && leads_at header task access o p (led header task access past) past)

-- the task waits on the host with a store into that page
abbrev pub writes : Header → ℕ → ℕ → ℕ → ℕ → List Event → Bool
writes header task h o p past = writes_as header task h o p (waiting task past) past

abbrev pub any_writes : Header → ℕ → ℕ → ℕ → ℕ → List Event → Bool
any_writes header zero h o p past = false
any_writes header (suc task) h o p past = writes header task h o p past || any_writes header task h o p past

abbrev pub is_wanted_to_write : Header → ℕ → ℕ → ℕ → List Event → Bool
is_wanted_to_write header h o p past = any_writes header most_tasks h o p past

-- Each access by itself.

-- what one request of a page of shared memory costs, or one unlock
abbrev pub turn_weight : Header → ℕ
turn_weight header = wish_weight (host_count header) + 1

-- a page that is to be read: one request, and another for those who wait to write it, since it comes to read alone
abbrev pub read_weight : Header → Local → ℕ
read_weight header page = if page.here || page.asked then 0 else 2 * turn_weight header

-- the present page of an access on a region
abbrev pub present_weight : Header → ℕ → Access → ℕ → ℕ → List Event → ℕ
present_weight header h access region page past =
    if is_shared header region && not (is_store access) then read_weight header (page_on header h region page past) else 0

-- the pages of a slow copy behind the present one
abbrev pub later_weight : Header → Access → ℕ → ℕ
later_weight header (Copying address bytes to) later = 2 * turn_weight header * later
later_weight header other later = 0

-- An access with so many pages left, of which one is the present page. It may fail by an error, behind which its place may be asked once more, and
-- what it fills may end; and a store may change a page that goes back once more.
abbrev pub left_weight : Header → ℕ → ℕ → Access → Entry → ℕ → List Event → ℕ
left_weight header task host access entry zero past = 0
left_weight header task host access entry (suc later) past =
    4 + present_weight header host access entry.region.0 (page_led header task access past entry) past + later_weight header access later

abbrev pub entry_weight : Header → ℕ → ℕ → Access → Option Entry → List Event → ℕ
entry_weight header task host access None past = 0
entry_weight header task host access (Some entry) past =
    left_weight header task host access entry (pages_left header.size access (next_page task past)) past

abbrev pub weight_of : Header → ℕ → Option Access → Option ℕ → List Event → ℕ
weight_of header task None host past = 0
weight_of header task (Some access) None past = 0
weight_of header task (Some access) (Some host) past = entry_weight header task host access (led header task access past) past

abbrev pub access_weight : Header → ℕ → List Event → ℕ
access_weight header task past = weight_of header task (waiting task past) (host_of task past) past

-- all accesses that wait
abbrev pub accesses : Header → List Event → ℕ
accesses header past = sum_below most_tasks (λ task. access_weight header task past)
