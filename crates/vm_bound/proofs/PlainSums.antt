-- Over all places, what is opened is one place at most, and what is asked for one; and slow copies stay on one region.
use Rattle.std.proofs.Common.{ℕ, ◌≡◌, ◌+◌, ◌*◌, ◌/◌, ◌==◌, ◌&&◌, ◌<◌, ◌≤◌, not, Bool, true, false, List, ◌∷◌, Option, Some, None, if◌then◌else◌}
use Rattle.std.proofs.Common.{ap, refl, subst, ◌∙◌}
use Rattle.std.proofs.Common.{arith}
use Rattle.std.proofs.lemmas.Bool.Decides.{nat_tests}
use Rattle.vm_base.specs.Entries.{entered, entry_at}
use Rattle.vm_base.specs.declared.entry.Entry.{Entry}
use Rattle.vm_bound.proofs.Distinct.{one_host, one_page, places_lower, places_none, places_sum, weigh}
use Rattle.vm_bound.proofs.LineLaw.{sum_at}
use Rattle.vm_bound.proofs.Owing.{place_gain}
use Rattle.vm_bound.proofs.Paying.{is_flushed_page}
use Rattle.vm_bound.proofs.PlainCopies.{CopyFromOne, next_copied}
use Rattle.vm_bound.proofs.PlainGone.{two_at}
use Rattle.vm_bound.proofs.PlainLaw.{plain_opens}
use Rattle.vm_bound.proofs.PlainTaken.{taken_opens}
use Rattle.vm_bound.specs.Lines.{sum_below}
use Rattle.vm_legal.specs.Follows.{IsConsequence}
use Rattle.vm_legal.specs.Licences.{HasCause, lock_taken}
use Rattle.vm_legal.specs.Outside.{Outside, is_shared}
use Rattle.vm_legal.specs.Steps.{Asked}
use Rattle.vm_model.specs.Local.{is_on}
use Rattle.vm_model.specs.Tasks.{entries_of, host_of}
use Rattle.vm_model.specs.Waiting.{Access, Copying, waiting}
use Rattle.vm_model.specs.declared.event.Event.{Event}
use Rattle.vm_model.specs.declared.event.Event.TheVariants as event
use Rattle.vm_model.specs.declared.message.Channel.TheVariants.{Up}
use Rattle.vm_model.specs.declared.message.Message.TheVariants as message
use Rattle.vm_model.specs.declared.script.Header.{Header}

same_number : (a b : ℕ) → (a == b) ≡ true → a ≡ b
same_number a b is = grind (arith, nat_tests)

-- What is opened.

nothing : (header : Header) (hosts objects n : ℕ) (pages : ℕ → ℕ) → places_sum hosts objects pages (λ h o p. if is_shared header o then 0 else 0) ≤ n
nothing header hosts objects n pages =
    let none = places_none hosts objects pages (λ h o p. if is_shared header o then 0 else 0) (λ h o p. by (is_shared header o)) in omega (arith, none)
  where
    by : (b : Bool) → (if b then 0 else 0) ≤ 0
    by true = omega arith
    by false = omega arith

-- one place of an object, where that isn't shared
one_opened : (header : Header) (hosts objects : ℕ) (pages : ℕ → ℕ) (host : Option ℕ) (object page : ℕ)
    → places_sum hosts objects pages (λ h o p. if is_shared header o then 0 else if is_on h host && (object == o && page == p) then 2 else 0)
    ≤ (if is_shared header object then 0 else 2)
one_opened header hosts objects pages host object page =
    let each = places_lower hosts objects pages
    (λ h o p. if is_shared header o then 0 else if is_on h host && (object == o && page == p) then 2 else 0)
    (λ h o p. weigh (is_on h host && (object == o && page == p)) (if is_shared header object then 0 else 2))
    (λ h o p. at o (is_on h host) (object == o) (page == p) (λ is. same_number object o is)) in
    let once = one_host hosts objects pages host (λ o p. object == o && page == p) (if is_shared header object then 0 else 2)
    (if is_shared header object then 0 else 2) (one_page objects pages object page (if is_shared header object then 0 else 2)) in
    omega (arith, each, once)
  where
    itself : (n : ℕ) → n ≤ n
    itself n = omega arith

    none : (b : Bool) → (if b then 0 else 0) ≤ 0
    none true = omega arith
    none false = omega arith

    at : (o : ℕ) (on own here : Bool) → (own ≡ true → object ≡ o)
        → (if is_shared header o then 0 else if on && (own && here) then 2 else 0) ≤ weigh (on && (own && here)) (if is_shared header object then 0 else 2)
    at o true true true same =
        subst (λ (k : ℕ). (if is_shared header k then 0 else 2) ≤ (if is_shared header object then 0 else 2)) (same refl)
        (itself (if is_shared header object then 0 else 2))
    at o true true false same = none (is_shared header o)
    at o true false here same = none (is_shared header o)
    at o false own here same = none (is_shared header o)

-- that a flush takes a page from
one_flushed : (header : Header) (hosts objects : ℕ) (pages : ℕ → ℕ) (flushed : Bool) (host object page : ℕ)
    → places_sum hosts objects pages (λ h o p. if is_shared header o then 0 else if flushed then two_at host object page h o p else 0)
    ≤ (if not (is_shared header object) && flushed then 2 else 0)
one_flushed header hosts objects pages true host object page =
    let once = one_opened header hosts objects pages (Some host) object page in
    let less = by (is_shared header object) in
    omega (arith, once, less)
  where
    by : (b : Bool) → (if b then 0 else 2) ≤ (if not b && true then 2 else 0)
    by true = omega arith
    by false = omega arith
one_flushed header hosts objects pages false host object page = nothing header hosts objects (if not (is_shared header object) && false then 2 else 0) pages

pub opens_once : (header : Header) (hosts objects : ℕ) (pages : ℕ → ℕ) (e : Event) (past : List Event)
    → places_sum hosts objects pages (λ h o p. if is_shared header o then 0 else plain_opens header e past h o p) ≤ place_gain header e past
opens_once header hosts objects pages (event.Sent (Up host object) (message.Return control page dirty keep bytes)) past =
    one_flushed header hosts objects pages (is_flushed_page host.0 object.0 page.0 (lock_taken past)) host.0 object.0 page.0
opens_once header hosts objects pages (event.Dropped host object page) past =
    one_flushed header hosts objects pages (is_flushed_page host.0 object.0 page.0 (lock_taken past)) host.0 object.0 page.0
opens_once header hosts objects pages (event.CopiedPage task page object object_page target) past =
    one_opened header hosts objects pages (host_of task.0 past) object.0 (next_copied header task.0 page.0 past)
opens_once header hosts objects pages e past = nothing header hosts objects (place_gain header e past) pages

-- an error opens one place
pub taken_once : (hosts objects : ℕ) (pages : ℕ → ℕ) (x : Option Asked) → places_sum hosts objects pages (λ h o p. taken_opens x h o p) ≤ 2
taken_once hosts objects pages None = let none = places_none hosts objects pages (λ h o p. 0) (λ h o p. omega arith) in omega (arith, none)
taken_once hosts objects pages (Some asked) =
    one_host hosts objects pages (Some asked.host) (λ o p. asked.object == o && asked.page == p) 2 2 (one_page objects pages asked.object asked.page 2)

-- What is asked for.

-- the place of a request is one of those that count
pub pays_once : (header : Header) (hosts objects host object page : ℕ) (pages : ℕ → ℕ) → host < hosts → object < objects → page < pages object
    → is_shared header object ≡ false → 2 ≤ places_sum hosts objects pages (λ h o p. if is_shared header o then 0 else two_at host object page h o p)
pays_once header hosts objects host object page pages on made inside plain =
    let own : (if is_shared header object then 0 else two_at host object page host object page) ≡ 2 =
    ap (λ (b : Bool). if b then 0 else two_at host object page host object page) plain ∙ ap (λ (b : Bool). if b then 2 else 0) (itself host object page) in
    let one = sum_at (pages object) (λ p. if is_shared header object then 0 else two_at host object page host object p) page inside in
    let two = sum_at objects (λ o. sum_below (pages o) (λ p. if is_shared header o then 0 else two_at host object page host o p)) object made in
    let three = sum_at hosts
    (λ h. sum_below objects (λ o. sum_below (pages o) (λ p. if is_shared header o then 0 else two_at host object page h o p))) host on in
    omega (arith, own, one, two, three)
  where
    itself : (a b c : ℕ) → (a == a && (b == b && c == c)) ≡ true
    itself a b c = grind (arith, nat_tests)

-- Slow copies.

copying_if : (b : Bool) (access : Access) (x : Option Access) → (if b then None else x) ≡ Some access → x ≡ Some access
copying_if true access x is = absurd (let bad : ◌≡◌ {A = Option Access} None (Some access) = is in cc)
copying_if false access x is = is

ended_one : (header : Header) (owner : ℕ) (past : List Event) → CopyFromOne header past
    → (task address bytes to one two : ℕ) (first second : Entry) → (if owner == task then None else waiting task past) ≡ Some (Copying address bytes to)
    → one < bytes / header.size → two < bytes / header.size → entry_at (address + one * header.size) (entries_of header.size task past) ≡ Some first
    → entry_at (address + two * header.size) (entries_of header.size task past) ≡ Some second → first.region.0 ≡ second.region.0
ended_one header owner past was task address bytes to one two first second waits =
    was task address bytes to one two first second (copying_if (owner == task) (Copying address bytes to) (waiting task past) waits)

-- whoever gets an entry doesn't copy
no_copy : (access : Access) (x : Option Access) → x ≡ None → x ≡ Some access → ⊥
no_copy access x none is = cc

entries_if : (b : Bool) (new : Entry) (rows : List Entry) (address : ℕ) (row : Entry) → (b ≡ true → ⊥)
    → entry_at address (if b then entered new rows else rows) ≡ Some row → entry_at address rows ≡ Some row
entries_if true new rows address row isnt found = absurd (isnt refl)
entries_if false new rows address row isnt found = found

pub copy_from_one : (header : Header) (outside : Outside) (e : Event) (past : List Event) → HasCause header outside e past → IsConsequence e past
    → CopyFromOne header past → CopyFromOne header (e ∷ past)
copy_from_one header outside (event.Loaded owner object page value) past c may was = ended_one header owner.0 past was
copy_from_one header outside (event.Stored owner object page at size value) past c may was = ended_one header owner.0 past was
copy_from_one header outside (event.CopyEnded owner) past c may was = ended_one header owner.0 past was
copy_from_one header outside (event.Failed owner object page) past c may was = ended_one header owner.0 past was
copy_from_one header outside (event.Entered owner at size region offset prot inherit) past c may was =
    λ task address bytes to one two first second waits less below found also. let other : (owner.0 == task) ≡ true → ⊥ =
    λ own. no_copy (Copying address bytes to) (waiting task past) (subst (λ (k : ℕ). waiting k past ≡ None) (same_number owner.0 task own) c.1.idle) waits in
    let new : Entry = record { address = at; bytes = size; region = region; offset = offset; prot = prot; inherit = inherit } in
    was task address bytes to one two first second waits less below
    (entries_if (owner.0 == task) new (entries_of header.size task past) (address + one * header.size) first other found)
    (entries_if (owner.0 == task) new (entries_of header.size task past) (address + two * header.size) second other also)
copy_from_one header outside (event.CopiedPage owner page object object_page target) past c may was = was
copy_from_one header outside (event.Sent channel m) past c may was = was
copy_from_one header outside (event.Taken channel m) past c may was = was
copy_from_one header outside (event.Dropped host object page) past c may was = was
copy_from_one header outside (event.Zeroed host object page) past c may was = was
copy_from_one header outside (event.Raised host lower lower_page upper upper_page) past c may was = was
copy_from_one header outside (event.Shadowed region new old) past c may was = was
copy_from_one header outside (event.Unmarked region) past c may was = was
copy_from_one header outside (event.Merged upper lower) past c may was = was
copy_from_one header outside (event.DeviceFailed who way object page) past c may was = was
copy_from_one header outside (event.NoSlot object page) past c may was = was
copy_from_one header outside e past c may was = absurd may
