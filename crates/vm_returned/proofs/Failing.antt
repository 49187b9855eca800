-- A page of temporary memory that its pager lost, or can't read, was returned to it.
use Rattle.std.proofs.Common.{◌≡◌, ℕ, ◌≤◌, ◌==◌, ◌&&◌, ◌||◌, not, Bool, true, false, List, [], ◌∷◌, Option, Some, None, refl, ap, subst, sym, ◌∙◌, arith}
use Rattle.std.proofs.Common.{inl, inr}
use Rattle.std.proofs.lemmas.Bool.{and_parts}
use Rattle.std.proofs.lemmas.Bool.Decides.{nat_tests}
use Rattle.std.specs.Prelude.{if◌then◌else◌, nat_lt}
use Rattle.vm_base.specs.declared.ids.ObjectId.{ObjectId}
use Rattle.vm_base.specs.declared.ids.PageNo.{PageNo}
use Rattle.vm_model.specs.declared.event.Device.{Device}
use Rattle.vm_model.specs.declared.event.Device.TheVariants as device
use Rattle.vm_model.specs.declared.event.Event.{Event}
use Rattle.vm_model.specs.declared.event.Event.TheVariants as event
use Rattle.vm_model.specs.declared.event.Way.TheVariants as way
use Rattle.vm_model.specs.declared.message.Channel.TheVariants.{Up}
use Rattle.vm_model.specs.declared.message.Message.{Message}
use Rattle.vm_model.specs.declared.message.Message.TheVariants as message
use Rattle.vm_model.specs.declared.script.Header.{Header}
use Rattle.vm_model.specs.Moments.{EachEvent}
use Rattle.vm_model.specs.Named.{named}
use Rattle.vm_legal.proofs.Files.{not_file}
use Rattle.vm_legal.specs.Licences.{HasCause, IsFault, TakesReturn}
use Rattle.vm_legal.specs.Outside.{Outside}
use Rattle.vm_legal.specs.Pagers.{Slotted, first_free, is_lost, returned_in, slot_at, slot_of, slots, slots_after, slotted, with_slot, without_object}
use Rattle.vm_legal.specs.Returned.{was_returned}
use Rattle.vm_legal.specs.Steps.{Letter, fails_reading, since}
use Rattle.vm_quiet.proofs.Letters.{never}
use Rattle.vm_returned.proofs.Returned.{IsReturned, returned_later, taken_return, taken_up}

-- ---- slots

-- the end of an object gives no page a slot
without_none : (o p object : ℕ) (rows : List Slotted) → slot_of o p rows ≡ None → slot_of o p (without_object object rows) ≡ None
without_none o p object [] none = none
without_none o p object (row ∷ rows) none =
    by (row.object == object) (row.object == o && row.page == p) refl none (without_none o p object rows)
  where
    by : (gone its : Bool) → (row.object == o && row.page == p) ≡ its → (if its then Some row.slot else slot_of o p rows) ≡ None
        → (slot_of o p rows ≡ None → slot_of o p (without_object object rows) ≡ None)
        → slot_of o p (if gone then without_object object rows else row ∷ without_object object rows) ≡ None
    by gone true test none rest = absurd (let bad : Some row.slot ≡ None = none in cc)
    by true false test none rest = rest none
    by false false test none rest = ap (λ b. if b then Some row.slot else slot_of o p (without_object object rows)) test ∙ rest none

-- a page gets a slot by its return alone
slotless : (count o p object : ℕ) (m : Message) (rows : List Slotted) → slot_of o p rows ≡ None → (object ≡ o → returned_in p m ≡ None)
    → slot_of o p (slots_after count object m rows) ≡ None
slotless count o p object (message.Return control page dirty keep bytes) rows none other = by (slot_of object page.0 rows)
  where
    its : (slot : ℕ) (b : Bool) → (object == o && page.0 == p) ≡ b → (if b then Some slot else slot_of o p rows) ≡ None
    its slot true test =
        let here : (page.0 == p) ≡ true = (and_parts (object == o) (page.0 == p) test).1 in
        absurd (let bad : Some bytes ≡ None = sym (ap (λ b. if b then Some bytes else None) here) ∙ other (grind (arith, nat_tests, test)) in cc)
    its slot false test = none

    filled : (free : Option ℕ) → slot_of o p (with_slot object page.0 free rows) ≡ None
    filled None = none
    filled (Some slot) = its slot (object == o && page.0 == p) refl

    by : (had : Option ℕ) → slot_of o p (slotted count object page.0 had rows) ≡ None
    by (Some slot) = none
    by None = filled (first_free count 0 rows)
slotless count o p object (message.Terminate control) rows none other = without_none o p object rows none
slotless count o p object m rows none other = none

-- so one that was never returned has none
unslotted : (header : Header) (outside : Outside) (h o p : ℕ) (past : List Event) → EachEvent (HasCause header outside) past
    → was_returned h o p past ≡ false → slot_at header h o p past ≡ None
unslotted header outside h o p [] causes unreturned = refl
unslotted header outside h o p (event.Taken (Up at object) m ∷ past) causes unreturned =
    by (at.0 == h && not (nat_lt object.0 (named header))) refl (unslotted header outside h o p past causes.1 unreturned)
  where
    not_its : at.0 ≡ h → object.0 ≡ o → (x : Option (List ℕ)) → returned_in p m ≡ x → x ≡ None
    not_its host_is object_is None is = refl
    not_its host_is object_is (Some bytes) is =
        never (sym unreturned ∙ taken_return h o p past m bytes (subst (λ (z : ℕ). IsReturned z o past m) host_is
        (subst (λ (z : ℕ). IsReturned at.0 z past m) object_is (taken_up header outside at object m past causes))) is)

    by : (b : Bool) → (at.0 == h && not (nat_lt object.0 (named header))) ≡ b → slot_at header h o p past ≡ None
        → slot_of o p (if b then slots_after header.slots object.0 m (slots header h past) else slots header h past) ≡ None
    by true test none =
        slotless header.slots o p object.0 m (slots header h past) none (λ same. not_its (grind (arith, nat_tests, test)) same (returned_in p m) refl)
    by false test none = none
unslotted header outside h o p (event.Sent (Up host object) (message.Return control page dirty keep bytes) ∷ past) causes unreturned =
    unslotted header outside h o p past causes.1 (by (host.0 == h && (object.0 == o && page.0 == p)) unreturned)
  where
    by : (b : Bool) → (b || was_returned h o p past) ≡ false → was_returned h o p past ≡ false
    by true is = never (sym is)
    by false is = is
unslotted header outside h o p (e ∷ past) causes unreturned = unslotted header outside h o p past causes.1 unreturned

slot_was : (header : Header) (outside : Outside) (h o p slot : ℕ) (past : List Event) → EachEvent (HasCause header outside) past
    → slot_at header h o p past ≡ Some slot → was_returned h o p past ≡ true
slot_was header outside h o p slot past causes is = by (was_returned h o p past) refl
  where
    by : (b : Bool) → was_returned h o p past ≡ b → b ≡ true
    by true was = refl
    by false unreturned = absurd (let bad : None ≡ Some slot = sym (unslotted header outside h o p past causes unreturned) ∙ is in cc)

-- ---- lost pages, and pages that can't be read

-- some host has returned the page
abbrev pub ReturnedSomewhere : ℕ → ℕ → List Event → Type 0
ReturnedSomewhere o p past = (h : ℕ) × (was_returned h o p past ≡ true)

somewhere_later : (o p : ℕ) (e : Event) (past : List Event) → ReturnedSomewhere o p past → ReturnedSomewhere o p (e ∷ past)
somewhere_later o p e past was = (was.0, returned_later was.0 o p e past was.1)

same_page : (o p : ℕ) (object : ObjectId) (page : PageNo) (past : List Event) → (object.0 == o && page.0 == p) ≡ true
    → ReturnedSomewhere object.0 page.0 past → ReturnedSomewhere o p past
same_page o p object page past test was =
    let object_is : object.0 ≡ o = grind (arith, nat_tests, test) in
    let page_is : page.0 ≡ p = grind (arith, nat_tests, test) in
    subst (λ (z : ℕ). ReturnedSomewhere o z past) page_is (subst (λ (z : ℕ). ReturnedSomewhere z page.0 past) object_is was)

pub same_letter : (a b : Letter) → Some a ≡ Some b → a ≡ b
same_letter a b is = cc

-- the return that the step just took
return_was : (header : Header) (outside : Outside) (host object page : ℕ) (past : List Event) → EachEvent (HasCause header outside) past
    → TakesReturn host object page past → ReturnedSomewhere object page past
return_was header outside host object page [] causes takes = absurd (let bad : None ≡ Some _ = takes.is in cc)
return_was header outside host object page (event.Taken channel m ∷ past) causes takes = (
  host,
  taken_up header outside (record { 0 = host }) (record { 0 = object })
      (message.Return takes.control (record { 0 = page }) takes.dirty takes.keep takes.bytes) past
      (subst (λ (l : Letter). EachEvent (HasCause header outside) (event.Taken l.channel l.message ∷ past))
      (same_letter (record { channel = channel; message = m }) _ takes.is) causes),
)
return_was header outside host object page (e ∷ past) causes takes = absurd (let bad : None ≡ Some _ = takes.is in cc)

lost_was : (header : Header) (outside : Outside) (o p : ℕ) (past : List Event) → EachEvent (HasCause header outside) past → is_lost o p past ≡ true
    → ReturnedSomewhere o p past
lost_was header outside o p [] causes is = never is
lost_was header outside o p (event.Taken (Up at object) (message.Return control page dirty keep bytes) ∷ past) causes is =
    somewhere_later o p (event.Taken (Up at object) (message.Return control page dirty keep bytes)) past
    (by (object.0 == o && page.0 == p) (lost_was header outside o p past causes.1) is)
  where
    by : (b : Bool) → (is_lost o p past ≡ true → ReturnedSomewhere o p past) → (if b then false else is_lost o p past) ≡ true → ReturnedSomewhere o p past
    by true before is = never is
    by false before is = before is
lost_was header outside o p (event.DeviceFailed who way.Write object page ∷ past) causes is =
    somewhere_later o p (event.DeviceFailed who way.Write object page) past
    (by (object.0 == o && page.0 == p) refl (lost_was header outside o p past causes.1) is)
  where
    by : (b : Bool) → (object.0 == o && page.0 == p) ≡ b → (is_lost o p past ≡ true → ReturnedSomewhere o p past) → (b || is_lost o p past) ≡ true
        → ReturnedSomewhere o p past
    by true test before is =
        same_page o p object page past test (return_was header outside causes.0.1.1.0 object.0 page.0 past causes.1 causes.0.1.1.1)
    by false test before is = before is
lost_was header outside o p (event.DeviceFailed who way.Read object page ∷ past) causes is =
    somewhere_later o p (event.DeviceFailed who way.Read object page) past (lost_was header outside o p past causes.1 is)
lost_was header outside o p (event.NoSlot object page ∷ past) causes is =
    somewhere_later o p (event.NoSlot object page) past (by (object.0 == o && page.0 == p) refl (lost_was header outside o p past causes.1) is)
  where
    by : (b : Bool) → (object.0 == o && page.0 == p) ≡ b → (is_lost o p past ≡ true → ReturnedSomewhere o p past) → (b || is_lost o p past) ≡ true
        → ReturnedSomewhere o p past
    by true test before is =
        same_page o p object page past test (return_was header outside causes.0.1.host object.0 page.0 past causes.1 causes.0.1.takes)
    by false test before is = before is
lost_was header outside o p (e ∷ past) causes is = somewhere_later o p e past (lost_was header outside o p past causes.1 is)

-- reading is tried only of a page that has a slot
read_was : (header : Header) (outside : Outside) (who : Device) (object : ObjectId) (page : PageNo) (past : List Event)
    → EachEvent (HasCause header outside) past → HasCause header outside (event.DeviceFailed who way.Read object page) past → named header ≤ object.0
    → ReturnedSomewhere object.0 page.0 past
read_was header outside device.Paging object page past causes cause high =
    let slot = cause.1.1.2 in (cause.1.1.0, slot_was header outside cause.1.1.0 object.0 page.0 slot.0 past causes slot.1)
read_was header outside device.Files object page past causes cause high = never (sym (not_file header object.0 high) ∙ cause.1.0)

unread_was : (header : Header) (outside : Outside) (o p : ℕ) (past : List Event) → EachEvent (HasCause header outside) past → named header ≤ o
    → since (fails_reading o p) past ≡ true → ReturnedSomewhere o p past
unread_was header outside o p [] causes high is = never is
unread_was header outside o p (event.Line line ∷ past) causes high is = never is
unread_was header outside o p (event.Taken channel m ∷ past) causes high is = never is
unread_was header outside o p (event.DeviceFailed who way.Read object page ∷ past) causes high is =
    somewhere_later o p (event.DeviceFailed who way.Read object page) past
    (by (object.0 == o && page.0 == p) refl (unread_was header outside o p past causes.1 high) is)
  where
    by : (b : Bool) → (object.0 == o && page.0 == p) ≡ b → (since (fails_reading o p) past ≡ true → ReturnedSomewhere o p past)
        → (b || since (fails_reading o p) past) ≡ true → ReturnedSomewhere o p past
    by true test before is =
        let object_is : object.0 ≡ o = grind (arith, nat_tests, test) in
        same_page o p object page past test (read_was header outside who object page past causes.1 causes.0 (omega (arith, object_is, high)))
    by false test before is = before is
unread_was header outside o p (event.DeviceFailed who way.Write object page ∷ past) causes high is =
    somewhere_later o p (event.DeviceFailed who way.Write object page) past (unread_was header outside o p past causes.1 high is)
unread_was header outside o p (e ∷ past) causes high is = somewhere_later o p e past (unread_was header outside o p past causes.1 high is)

pub fault_was : (header : Header) (outside : Outside) (o p : ℕ) (past : List Event) → EachEvent (HasCause header outside) past → named header ≤ o
    → IsFault o p past → ReturnedSomewhere o p past
fault_was header outside o p past causes high (inl lost) = lost_was header outside o p past causes lost
fault_was header outside o p past causes high (inr unread) = unread_was header outside o p past causes high unread
