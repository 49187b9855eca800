-- The flat map of a shared object's region is what the stores of the page's part leave.
use Rattle.std.proofs.Common.{ℕ, ◌≡◌, ◌≢◌, ◌+◌, ◌%◌, ◌<◌, ◌≤◌, List, [], ◌∷◌, replicate, Bool, true, false, Option, Some, None, if◌then◌else◌, refl, sym, ap}
use Rattle.std.proofs.Common.{◌∙◌, arith, ⊎_elim}
use Rattle.std.proofs.lemmas.Bool.{cases_lt, cond-false}
use Rattle.std.proofs.lemmas.Bool.Decides.{nat_tests}
use Rattle.std.specs.Prelude.{◌==◌, ◌&&◌}
use Rattle.vm_base.specs.Entries.{page_at}
use Rattle.vm_base.specs.Pages.{little_endian_bytes, with_bytes}
use Rattle.vm_model.specs.declared.event.Event.{Event}
use Rattle.vm_model.specs.declared.event.Event.TheVariants as event
use Rattle.vm_model.specs.declared.message.Channel.TheVariants.{Up, Down}
use Rattle.vm_model.specs.declared.message.Message.{Message}
use Rattle.vm_model.specs.declared.message.Message.TheVariants as message
use Rattle.vm_model.specs.declared.script.Header.{Header}
use Rattle.vm_model.specs.Moments.{EachEvent}
use Rattle.vm_model.specs.Named.{named}
use Rattle.vm_model.specs.PagePart.{page_part}
use Rattle.vm_model.specs.Regions.{next_region, region_of}
use Rattle.vm_model.specs.Server.{current, current_after}
use Rattle.vm_model.specs.Side.{side}
use Rattle.vm_model.specs.TaskPlace.{means_page, task_host}
use Rattle.vm_model.specs.Words.{ActEffect, Begins, Copies, Drops, EndsCopy, Fails, Loads, Nothing, Puts, SentDown, StepBegins, Stores, TakenUp, TakesDown}
use Rattle.vm_model.specs.Words.{act_of, down_word, sent_act_effect, up_word}
use Rattle.vm_legal.specs.Flat.{bytes_after_answer, bytes_after_store, change_of, flat_page, is_number, made_over}
use Rattle.vm_legal.specs.Licences as L
use Rattle.vm_legal.specs.Licences.{HasCause}
use Rattle.vm_legal.specs.Outside.{Outside, are_untold, is_file, is_said, is_shared, start_page, zeros}
use Rattle.vm_legal.specs.Walks.{IsTop}
use Rattle.vm_legal.proofs.Unshared.{file_unshared}
use Rattle.vm_flat.proofs.Caused.{change_is}
use Rattle.vm_flat.proofs.Numbers.{NumberedAt}
use Rattle.vm_shared.proofs.Declared.{declared_top_own, overs_later, shared_declared}
use Rattle.vm_shared.proofs.Numbering.{Numbering, at_made, numbering}

-- what is no store leaves the page's bytes

abbrev NoStore : ActEffect → Type 0
NoStore (Stores task at size value) = ⊥
NoStore e = Unit {0}

current_kept : (e : ActEffect) (page : List ℕ) → NoStore e → current_after e page ≡ page
current_kept (Stores task at size value) page none = absurd none
current_kept e page none = refl

none_if : (b : Bool) (e f : ActEffect) → NoStore e → NoStore f → NoStore (if b then e else f)
none_if true e f one other = one
none_if false e f one other = other

none_sent : (p : ℕ) (m : Message) → NoStore (sent_act_effect p m)
none_sent p (message.Init control size) = tt
none_sent p (message.Create control size) = tt
none_sent p m = tt

-- the event is no store
abbrev IsNoStore : Event → Type 0
IsNoStore (event.Stored task object page at size value) = ⊥
IsNoStore e = Unit {0}

stores_none : (size o p : ℕ) (hosts : ℕ → ℕ) (means : ℕ → ℕ → Bool) (held : ℕ → ℕ → ℕ → List ℕ) (e : Event) → IsNoStore e
    → NoStore (act_of size o p hosts means held e).effect
stores_none size o p hosts means held (event.Stored task object page at bytes value) is = absurd is
stores_none size o p hosts means held (event.Sent (Up host object) m) is = none_if (object.0 == o) (sent_act_effect p m) Nothing (none_sent p m) tt
stores_none size o p hosts means held (event.Sent (Down host object control) m) is = none_if (object.0 == o) (SentDown control (down_word p m)) Nothing tt tt
stores_none size o p hosts means held (event.Taken (Up host object) m) is = none_if (object.0 == o) (TakenUp (up_word p m)) StepBegins tt tt
stores_none size o p hosts means held (event.Taken (Down host object control) m) is =
    none_if (object.0 == o) (TakesDown control (down_word p m)) StepBegins tt tt
stores_none size o p hosts means held (event.Dropped host object page) is = none_if (object.0 == o && page.0 == p) Drops Nothing tt tt
stores_none size o p hosts means held (event.Zeroed host object page) is = none_if (object.0 == o && page.0 == p) (Puts (replicate size 0) false) Nothing tt tt
stores_none size o p hosts means held (event.Raised host lower lower_page upper upper_page) is =
    none_if (upper.0 == o && upper_page.0 == p) (Puts (held host.0 lower.0 lower_page.0) true) Nothing tt tt
stores_none size o p hosts means held (event.CopiedPage owner page object object_page target) is =
    none_if (target.0 == o && page.0 == p) (Puts (held (hosts owner.0) object.0 object_page.0) true)
    (if object.0 == o && object_page.0 == p then Copies owner.0 else Nothing) tt
    (none_if (object.0 == o && object_page.0 == p) (Copies owner.0) Nothing tt tt)
stores_none size o p hosts means held (event.BegunLoad owner address bytes) is =
    none_if (means owner.0 address) (Begins owner.0 false (address % size) bytes 0) Nothing tt tt
stores_none size o p hosts means held (event.BegunStore owner address bytes value) is =
    none_if (means owner.0 address) (Begins owner.0 true (address % size) bytes value) Nothing tt tt
stores_none size o p hosts means held (event.Loaded owner object page value) is = none_if (object.0 == o && page.0 == p) (Loads owner.0 value) Nothing tt tt
stores_none size o p hosts means held (event.Failed owner object page) is = none_if (object.0 == o && page.0 == p) (Fails owner.0) (EndsCopy owner.0) tt tt
stores_none size o p hosts means held other is = tt

bytes_stay : (size o p : ℕ) (e : Event) (past : List Event) → IsNoStore e
    → current size (page_part size o p (e ∷ past)) ≡ current size (page_part size o p past)
bytes_stay size o p e past is =
    current_kept (act_of size o p (λ t. task_host t past) (λ t address. means_page size o p t address past)
    (λ host object page. (side host (page_part size object page past)).bytes) e).effect (current size (page_part size o p past))
    (stores_none size o p (λ t. task_host t past) (λ t address. means_page size o p t address past)
    (λ host object page. (side host (page_part size object page past)).bytes) e is)

-- what others' regions, copies and answers are to the flat map of a shared region: nothing

unlike : (a b : ℕ) → a ≢ b → (a == b) ≡ false
unlike a b apart = grind (arith, nat_tests)

-- a shared object is no file
pub shared_no_file : (header : Header) (o : ℕ) → is_shared header o ≡ true → is_file header o ≡ false
shared_no_file header o shared = by (is_file header o) refl
  where
    by : (b : Bool) → is_file header o ≡ b → b ≡ false
    by false is = refl
    by true is = let bad : true ≡ false = sym shared ∙ file_unshared header o is in absurd (cc)

both_false : (a b : Bool) → a ≡ false → (a && b) ≡ false
both_false a b is = rw is refl

second_false : (a b : Bool) → b ≡ false → (a && b) ≡ false
second_false true b is = is
second_false false b is = refl

unsaid : (header : Header) (outside : Outside) (o p object at : ℕ) → is_shared header o ≡ true
    → (is_said header outside object && (o == object && p == at)) ≡ false
unsaid header outside o p object at shared = by (o == object) refl
  where
    by : (b : Bool) → (o == object) ≡ b → (is_said header outside object && (b && p == at)) ≡ false
    by false is = second_false (is_said header outside object) false refl
    by true is =
        let same : o ≡ object = grind (arith, nat_tests) in
        let plain : is_said header outside object ≡ false = ap (λ k. is_said header outside k) (sym same)
        ∙ second_false (are_untold outside.files) (is_file header o) (shared_no_file header o shared) in
        both_false (is_said header outside object) (p == at) plain

answer_kept : (header : Header) (outside : Outside) (o p object : ℕ) (m : Message) (was : List ℕ) → is_shared header o ≡ true
    → bytes_after_answer header (is_said header outside object) o p object m was ≡ was
answer_kept header outside o p object (message.Supply at lock precious bytes) was shared =
    cond-false (is_said header outside object && (o == object && p == at.0)) bytes was (unsaid header outside o p object at.0 shared)
answer_kept header outside o p object (message.Unavailable at) was shared =
    cond-false (is_said header outside object && (o == object && p == at.0)) (zeros header) was (unsaid header outside o p object at.0 shared)
answer_kept header outside o p object other was shared = refl

not_over : (header : Header) (o : ℕ) (x : Option ℕ) → o < named header → ((region : ℕ) → x ≡ Some region → named header ≤ region) → is_number o x ≡ false
not_over header o None small later = refl
not_over header o (Some region) small later = let above = later region refl in unlike o region (λ same. omega (arith, same, above, small))

-- a store

store_in : (b : Bool) (task at size value : ℕ) (page : List ℕ)
    → current_after (if b then Stores task at size value else Nothing) page ≡ (if b then with_bytes at (little_endian_bytes size value) page else page)
store_in true task at size value page = refl
store_in false task at size value page = refl

equals : (a b : ℕ) → (a == b) ≡ (b == a)
equals a b = grind (arith, nat_tests)

-- a store is to the place that its address means
same_place : (header : Header) (past : List Event) (r q object page o p : ℕ) → NumberedAt header past → r < next_region header past
    → IsTop (region_of header r past) q object page → o < named header → (o == r && p == q) ≡ (object == o && page == p)
same_place header past r q object page o p numbered made top small = ⊎_elim
    (λ less.
    let own = declared_top_own header past r q object page numbered less top in
    ap (λ n. o == n && p == q) own.region ∙ (ap (λ n. o == object && p == n) own.page
    ∙ (ap (λ b. b && p == page) (equals o object) ∙ ap (λ b. object == o && b) (equals p page))))
    (λ above.
    let far = numbered.temporary r above made in
    let is = top.object in
    both_false (o == r) (p == q) (unlike o r (λ same. omega (arith, same, above, small)))
    ∙ sym (both_false (object == o) (page == p) (unlike object o (λ same. omega (arith, same, far, is, small)))))
    (cases_lt r (named header))

stored : (header : Header) (o p : ℕ) (task : ℕ) (object page at size value : ℕ) (flat now : List ℕ) (past : List Event) → Numbering header past
    → o < named header → L.Stores header task object page at size value past → flat ≡ now
    → bytes_after_store o p (change_of header.size task past) flat ≡ current_after (if object == o && page == p then Stores task at size value else Nothing) now
stored header o p task object page at size value flat now past k small c same =
    let made = at_made header task c.address past k.made c.waits.at in
    let q = page_at header.size c.address c.waits.at.entry in
    ap (λ x. bytes_after_store o p x flat) (change_is header task c.address size value past c.waits)
    ∙ (ap (λ b. if b then with_bytes (c.address % header.size) (little_endian_bytes size value) flat else flat)
    (same_place header past c.waits.at.entry.region.0 q object page o p k.numbered made c.is_top small)
    ∙ (ap (λ a. if object == o && page == p then with_bytes a (little_endian_bytes size value) flat else flat) (sym c.place)
    ∙ (ap (λ x. if object == o && page == p then with_bytes at (little_endian_bytes size value) x else x) same
    ∙ sym (store_in (object == o && page == p) task at size value now))))

flat_next : (header : Header) (outside : Outside) (o p : ℕ) (e : Event) (past : List Event) → EachEvent (HasCause header outside) past
    → HasCause header outside e past → is_shared header o ≡ true
    → flat_page header outside o p past ≡ current header.size (page_part header.size o p past)
    → flat_page header outside o p (e ∷ past) ≡ current header.size (page_part header.size o p (e ∷ past))
flat_next header outside o p (event.RegionMade made object pages) past caused cause shared same =
    let k = numbering header outside past caused in
    let first = k.numbered.later_regions in
    let small = shared_declared header o shared in
    let number = cause.1.0 in
    cond-false (o == made.0) (zeros header) (flat_page header outside o p past) (unlike o made.0 (λ is. omega (arith, is, number, first, small))) ∙ same
flat_next header outside o p (event.RegionCopied made source offset pages) past caused cause shared same =
    let k = numbering header outside past caused in
    let first = k.numbered.later_regions in
    let small = shared_declared header o shared in
    let number = cause.1.next in
    cond-false (o == made.0) (flat_page header outside source.0 (offset + p) past) (flat_page header outside o p past)
    (unlike o made.0 (λ is. omega (arith, is, number, first, small))) ∙ same
flat_next header outside o p (event.Delayed made source offset pages copy) past caused cause shared same =
    let k = numbering header outside past caused in
    let first = k.numbered.later_regions in
    let small = shared_declared header o shared in
    let number = cause.1.next in
    cond-false (o == made.0) (flat_page header outside source.0 (offset + p) past) (flat_page header outside o p past)
    (unlike o made.0 (λ is. omega (arith, is, number, first, small))) ∙ same
flat_next header outside o p (event.Stored task object page at size value) past caused cause shared same =
    stored header o p task.0 object.0 page.0 at size value (flat_page header outside o p past) (current header.size (page_part header.size o p past)) past
    (numbering header outside past caused) (shared_declared header o shared) cause.1 same
flat_next header outside o p (event.CopiedPage task index object object_page target) past caused cause shared same =
    let none = not_over header o (made_over target.0 past) (shared_declared header o shared) (overs_later header outside past caused target.0) in
    cond-false (is_number o (made_over target.0 past) && p == index.0) (flat_page header outside object.0 object_page.0 past)
    (flat_page header outside o p past) (both_false (is_number o (made_over target.0 past)) (p == index.0) none)
    ∙ (same ∙ sym (bytes_stay header.size o p (event.CopiedPage task index object object_page target) past tt))
flat_next header outside o p (event.Sent (Down host object control) m) past caused cause shared same =
    answer_kept header outside o p object.0 m (flat_page header outside o p past) shared
    ∙ (same ∙ sym (bytes_stay header.size o p (event.Sent (Down host object control) m) past tt))
flat_next header outside o p (event.Sent (Up host object) m) past caused cause shared same =
    same ∙ sym (bytes_stay header.size o p (event.Sent (Up host object) m) past tt)
flat_next header outside o p (event.Taken (Up host object) m) past caused cause shared same =
    same ∙ sym (bytes_stay header.size o p (event.Taken (Up host object) m) past tt)
flat_next header outside o p (event.Taken (Down host object control) m) past caused cause shared same =
    same ∙ sym (bytes_stay header.size o p (event.Taken (Down host object control) m) past tt)
flat_next header outside o p e past caused cause shared same = same ∙ sym (bytes_stay header.size o p e past tt)

-- The flat map's page of a shared object is the page as the stores of its part leave it, whatever page it is.
pub current_is_flat : (header : Header) (outside : Outside) (past : List Event) → EachEvent (HasCause header outside) past → (o p : ℕ)
    → is_shared header o ≡ true → flat_page header outside o p past ≡ current header.size (page_part header.size o p past)
current_is_flat header outside [] caused o p shared =
    cond-false (is_file header o) (start_page header outside o p) (zeros header) (shared_no_file header o shared)
current_is_flat header outside (e ∷ past) caused o p shared =
    flat_next header outside o p e past caused.1 caused.0 shared (current_is_flat header outside past caused.1 o p shared)
