-- A page that is supplied was taken back before that, and so it was returned.
use Rattle.std.proofs.Common.{Bool, List, None, Option, Some, [], ap, false, refl, subst, sym, true, inl, inr, ℕ, ◌&&◌, ◌<◌, ◌∙◌, ◌∷◌, ◌==◌, ◌≡◌, ◌≤◌}
use Rattle.std.proofs.Common.{if◌then◌else◌, arith}
use Rattle.std.proofs.lemmas.Bool.{or_left, or_right}
use Rattle.std.proofs.lemmas.Bool.Decides.{eqb_tells, nat_tests}
use Rattle.std.specs.Prelude.{nat_lt}
use Rattle.vm_base.specs.declared.ids.HostId.{HostId}
use Rattle.vm_base.specs.declared.ids.ObjectId.{ObjectId}
use Rattle.vm_base.specs.declared.ids.ObjectKind.{ObjectKind}
use Rattle.vm_base.specs.declared.ids.ObjectKind.TheVariants.{File, Shared, Temp, Wild}
use Rattle.vm_model.specs.Channels.{queue}
use Rattle.vm_model.specs.Moments.{EachEvent}
use Rattle.vm_model.specs.Named.{declared, named}
use Rattle.vm_model.specs.declared.event.Event.{Event}
use Rattle.vm_model.specs.declared.event.Event.TheVariants as event
use Rattle.vm_model.specs.declared.message.Channel.{Channel}
use Rattle.vm_model.specs.declared.message.Channel.TheVariants.{Down, Up}
use Rattle.vm_model.specs.declared.message.Message.{Message}
use Rattle.vm_model.specs.declared.message.Message.TheVariants as message
use Rattle.vm_model.specs.declared.script.Header.{Header}
use Rattle.vm_legal.proofs.Files.{file_kind, not_file}
use Rattle.vm_legal.specs.Licences.{HasCause, PagerSends}
use Rattle.vm_legal.specs.Outside.{Outside, is_file, is_file_kind, kind_in, kind_of}
use Rattle.vm_legal.specs.Pagers.{last_return, newer, returned_in}
use Rattle.vm_legal.specs.Returned.{OnlyReturned, was_returned}
use Rattle.vm_model.specs.Controls.{last_control, live_control, without_control}
use Rattle.vm_abroad.proofs.Own.{itself}
use Rattle.vm_returned.specs.Returned.{TakesReturned}
use Rattle.vm_returned.proofs.Queued.{first_is, queue_is}

-- what was returned once was returned
pub returned_later : (h o p : ℕ) (e : Event) (past : List Event) → was_returned h o p past ≡ true → was_returned h o p (e ∷ past) ≡ true
returned_later h o p (event.Sent (Up host object) (message.Return control page dirty keep bytes)) past is =
    or_right (host.0 == h && (object.0 == o && page.0 == p)) (was_returned h o p past) is
returned_later h o p e past is = is

-- ---- on the way up

abbrev pub IsReturned : ℕ → ℕ → List Event → Message → Type 0
IsReturned h o past (message.Return control page dirty keep bytes) = was_returned h o page.0 past ≡ true
IsReturned h o past other = Unit {0}

is_returned_later : (h o : ℕ) (e : Event) (past : List Event) (m : Message) → IsReturned h o past m → IsReturned h o (e ∷ past) m
is_returned_later h o e past (message.Return control page dirty keep bytes) is = returned_later h o page.0 e past is
is_returned_later h o e past m is = tt

-- in this channel
abbrev IsReturnedOn : Channel → List Event → Message → Type 0
IsReturnedOn (Up host object) past m = IsReturned host.0 object.0 past m
IsReturnedOn (Down host object control) past m = Unit {0}

on_later : (c : Channel) (e : Event) (past : List Event) (m : Message) → IsReturnedOn c past m → IsReturnedOn c (e ∷ past) m
on_later (Up host object) e past m is = is_returned_later host.0 object.0 e past m is
on_later (Down host object control) e past m is = tt

sent_up : (c : Channel) (m : Message) (past : List Event) → IsReturnedOn c (event.Sent c m ∷ past) m
sent_up (Up host object) (message.Return control page dirty keep bytes) past =
    or_left (host.0 == host.0 && (object.0 == object.0 && page.0 == page.0)) (was_returned host.0 object.0 page.0 past)
    (rw (itself host.0) (rw (itself object.0) (itself page.0)))
sent_up (Up host object) m past = tt
sent_up (Down host object control) m past = tt

-- what a pager took last was returned to it

newer_some : (x y : Option (List ℕ)) (was : List ℕ) → newer x y ≡ Some was → ({A : Type 0} → ((b : List ℕ) → x ≡ Some b → A) → (y ≡ Some was → A) → A)
newer_some None y was is one other = other is
newer_some (Some b) y was is one other = one b refl

pub taken_return : (h o p : ℕ) (past : List Event) (m : Message) (bytes : List ℕ) → IsReturned h o past m → returned_in p m ≡ Some bytes
    → was_returned h o p past ≡ true
taken_return h o p past (message.Return control page dirty keep held) bytes is there = elim (eqb_tells page.0 p) [
  | inl same ↦ subst (λ (z : ℕ). was_returned h o z past ≡ true) same.1 is
  | inr apart ↦ absurd (let bad : None ≡ Some bytes = sym (ap (λ b. if b then Some held else None) apart.0) ∙ there in cc)
]
taken_return h o p past m bytes is there = absurd (let bad : None ≡ Some bytes = there in cc)

-- a return that is taken was sent
pub taken_up : (header : Header) (outside : Outside) (at : HostId) (object : ObjectId) (m : Message) (past : List Event)
    → EachEvent (HasCause header outside) (event.Taken (Up at object) m ∷ past) → IsReturned at.0 object.0 past m
taken_up header outside at object m past causes =
    first_is _ (queue (Up at object) past) m
    (queue_is header outside (Up at object) (IsReturnedOn (Up at object)) (on_later (Up at object)) (λ m2 past2 causes2 cause. sent_up (Up at object) m2 past2)
    past causes.1) causes.0.1.0

taken_was : (header : Header) (outside : Outside) (h o p : ℕ) (at : HostId) (object : ObjectId) (m : Message) (past : List Event) (was : List ℕ)
    → EachEvent (HasCause header outside) (event.Taken (Up at object) m ∷ past) → (last_return h o p past ≡ Some was → was_returned h o p past ≡ true)
    → (b : Bool) → (at.0 == h && object.0 == o) ≡ b → (if b then newer (returned_in p m) (last_return h o p past) else last_return h o p past) ≡ Some was
    → was_returned h o p past ≡ true
taken_was header outside h o p at object m past was causes before false test found = before found
taken_was header outside h o p at object m past was causes before true test found =
    newer_some (returned_in p m) (last_return h o p past) was found (λ bytes there. taken_return h o p past m bytes
    (subst (λ (z : ℕ). IsReturned z o past m) host_is (subst (λ (z : ℕ). IsReturned at.0 z past m) object_is
    (taken_up header outside at object m past causes))) there) before
  where
    host_is : at.0 ≡ h
    host_is = grind (arith, nat_tests, test)

    object_is : object.0 ≡ o
    object_is = grind (arith, nat_tests, test)

pub last_was : (header : Header) (outside : Outside) (h o p : ℕ) (past : List Event) (was : List ℕ) → EachEvent (HasCause header outside) past
    → last_return h o p past ≡ Some was → was_returned h o p past ≡ true
last_was header outside h o p [] was causes is = absurd (let bad : None ≡ Some was = is in cc)
last_was header outside h o p (event.Taken (Up at object) m ∷ past) was causes is =
    taken_was header outside h o p at object m past was causes (last_was header outside h o p past was causes.1) (at.0 == h && object.0 == o) refl is
last_was header outside h o p (e ∷ past) was causes is = returned_later h o p e past (last_was header outside h o p past was causes.1 is)

-- ---- on the way down

abbrev IsSupplied : Header → ℕ → ℕ → List Event → Message → Type 0
IsSupplied header h o past (message.Supply page lock precious bytes) =
    (named header ≤ o → (lock ≡ 0) × (was_returned h o page.0 past ≡ true)) × (is_file header o ≡ true → lock ≡ 0)
IsSupplied header h o past (message.Lock page count returns flush lock reply) = (named header ≤ o → ⊥) × (is_file header o ≡ true → lock ≡ 8)
IsSupplied header h o past other = Unit {0}

supplied_later : (header : Header) (h o : ℕ) (e : Event) (past : List Event) (m : Message) → IsSupplied header h o past m → IsSupplied header h o (e ∷ past) m
supplied_later header h o e past (message.Supply page lock precious bytes) is =
    (λ low. (let was = is.0 low in (was.0, returned_later h o page.0 e past was.1)), is.1)
supplied_later header h o e past (message.Lock page count returns flush lock reply) is = is
supplied_later header h o e past m is = tt

abbrev IsSuppliedOn : Header → Channel → List Event → Message → Type 0
IsSuppliedOn header (Up host object) past m = Unit {0}
IsSuppliedOn header (Down host object control) past m = IsSupplied header host.0 object.0 past m

on_supplied_later : (header : Header) (c : Channel) (e : Event) (past : List Event) (m : Message) → IsSuppliedOn header c past m
    → IsSuppliedOn header c (e ∷ past) m
on_supplied_later header (Up host object) e past m is = tt
on_supplied_later header (Down host object control) e past m is = supplied_later header host.0 object.0 e past m is

-- an object behind the declared ones is temporary
undeclared : (header : Header) (o : ℕ) → named header ≤ o → nat_lt o (named header) ≡ false
undeclared header o low = grind (arith, nat_tests, low)

pub temporary : (header : Header) (o : ℕ) → named header ≤ o → kind_of header o ≡ Temp
temporary header o low = ap (λ b. if b then kind_in (declared header o) else Temp) (undeclared header o low)

a_file : (header : Header) (o : ℕ) → is_file header o ≡ true → kind_of header o ≡ File
a_file header o file = by (kind_of header o) (file_kind header o ∙ file)
  where
    by : (kind : ObjectKind) → is_file_kind kind ≡ true → kind ≡ File
    by File is = refl
    by Temp is = absurd (let bad : false ≡ true = is in cc)
    by Shared is = absurd (let bad : false ≡ true = is in cc)
    by Wild is = absurd (let bad : false ≡ true = is in cc)

sent_down : (header : Header) (outside : Outside) (c : Channel) (m : Message) (past : List Event) → EachEvent (HasCause header outside) past
    → HasCause header outside (event.Sent c m) past → IsSuppliedOn header c (event.Sent c m ∷ past) m
sent_down header outside (Up host object) m past causes cause = tt
sent_down header outside (Down host object control) (message.Supply page lock precious bytes) past causes cause = (
  λ low.
      let sends = subst (λ (z : ObjectKind). PagerSends z header outside cause.0 host.0 object.0 control (message.Supply page lock precious bytes) past)
      (temporary header object.0 low) cause.1 in
      let has = sends.4 (not_file header object.0 low) in
      (sends.2, last_was header outside host.0 object.0 page.0 past has.0 causes has.1),
  λ file.
      let sends = subst (λ (z : ObjectKind). PagerSends z header outside cause.0 host.0 object.0 control (message.Supply page lock precious bytes) past)
      (a_file header object.0 file) cause.1 in
      sends.2,
)
sent_down header outside (Down host object control) (message.Lock page count returns flush lock reply) past causes cause = (
  λ low.
      let sends = subst
      (λ (z : ObjectKind). PagerSends z header outside cause.0 host.0 object.0 control (message.Lock page count returns flush lock reply) past)
      (temporary header object.0 low) cause.1 in
      let bad : false ≡ true = sym (not_file header object.0 low) ∙ sends.0 in
      cc,
  λ file.
      let sends = subst
      (λ (z : ObjectKind). PagerSends z header outside cause.0 host.0 object.0 control (message.Lock page count returns flush lock reply) past)
      (a_file header object.0 file) cause.1 in
      sends.2,
)
sent_down header outside (Down host object control) m past causes cause = tt

-- what is taken from the pager of a temporary object or a file
taken_down : (header : Header) (outside : Outside) (host : HostId) (object : ObjectId) (control : ℕ) (m : Message) (past : List Event)
    → EachEvent (HasCause header outside) past → HasCause header outside (event.Taken (Down host object control) m) past
    → IsSupplied header host.0 object.0 past m
taken_down header outside host object control m past causes cause =
    first_is _ (queue (Down host object control) past) m
    (queue_is header outside (Down host object control) (IsSuppliedOn header (Down host object control)) (on_supplied_later header (Down host object control))
    (sent_down header outside (Down host object control)) past causes) cause.1.0

takes : (header : Header) (outside : Outside) (e : Event) (past : List Event) → EachEvent (HasCause header outside) past → HasCause header outside e past
    → TakesReturned header e past
takes header outside (event.Taken (Down host object control) (message.Supply page lock precious bytes)) past causes cause =
    λ low. ((taken_down header outside host object control (message.Supply page lock precious bytes) past causes cause).0 low).1
takes header outside other past causes cause = tt

pub takes_returned : (header : Header) (outside : Outside) (history : List Event) → EachEvent (HasCause header outside) history
    → EachEvent (TakesReturned header) history
takes_returned header outside [] causes = tt
takes_returned header outside (e ∷ past) causes = (takes header outside e past causes.1 causes.0, takes_returned header outside past causes.1)

-- ---- controls are numbered from one, and pages are returned to them

still_some : (control : ℕ) (x : Option ℕ) (live : ℕ) → without_control control x ≡ Some live → ({A : Type 0} → ((number : ℕ) → x ≡ Some number → A) → A)
still_some control None live is go = absurd (let bad : None ≡ Some live = is in cc)
still_some control (Some number) live is go = go number refl

begun_last : (b : Bool) (control last live : ℕ) (was : Option ℕ) → 0 < control → (was ≡ Some live → 0 < last) → (if b then Some control else was) ≡ Some live
    → 0 < (if b then control else last)
begun_last true control last live was some before is = some
begun_last false control last live was some before is = before is

ended_last : (b : Bool) (control last live : ℕ) (was : Option ℕ) → ((number : ℕ) → was ≡ Some number → 0 < last)
    → (if b then without_control control was else was) ≡ Some live → 0 < last
ended_last true control last live was before is = still_some control was live is before
ended_last false control last live was before is = before live is

-- a control that lives is the last one, or an earlier one
pub live_last : (header : Header) (outside : Outside) (h o : ℕ) (past : List Event) (live : ℕ) → EachEvent (HasCause header outside) past
    → live_control h o past ≡ Some live → 0 < last_control h o past
live_last header outside h o [] live causes is = absurd (let bad : None ≡ Some live = is in cc)
live_last header outside h o (event.Sent (Up host object) (message.Init control size) ∷ past) live causes is =
    let number = causes.0.1.number in
    begun_last (host.0 == h && object.0 == o) control (last_control h o past) live (live_control h o past) (omega (arith, number))
    (λ was. live_last header outside h o past live causes.1 was) is
live_last header outside h o (event.Sent (Up host object) (message.Create control size) ∷ past) live causes is =
    let number = causes.0.1.number in
    begun_last (host.0 == h && object.0 == o) control (last_control h o past) live (live_control h o past) (omega (arith, number))
    (λ was. live_last header outside h o past live causes.1 was) is
live_last header outside h o (event.Sent (Up host object) (message.Terminate control) ∷ past) live causes is =
    ended_last (host.0 == h && object.0 == o) control (last_control h o past) live (live_control h o past)
    (λ number was. live_last header outside h o past number causes.1 was) is
live_last header outside h o (e ∷ past) live causes is = live_last header outside h o past live causes.1 is

below : (header : Header) (o : ℕ) → (named header ≤ o → ⊥) → o < named header
below header o none = by (nat_lt o (named header)) refl
  where
    by : (b : Bool) → nat_lt o (named header) ≡ b → o < named header
    by true is = grind (arith, nat_tests, is)
    by false is = absurd (none (grind (arith, nat_tests, is)))

pub only_returned : (header : Header) (outside : Outside) (h : ℕ) (history : List Event) → EachEvent (HasCause header outside) history
    → OnlyReturned header h history
only_returned header outside h [] causes = tt
only_returned header outside h (event.Taken (Down host object control) (message.Supply page lock precious bytes) ∷ past) causes =
    let is = taken_down header outside host object control (message.Supply page lock precious bytes) past causes.1 causes.0 in (
      λ on low. (let was = is.0 low in (was.0, subst (λ (z : ℕ). was_returned z object.0 page.0 past ≡ true) on was.1)),
      λ on file. is.1 file,
      only_returned header outside h past causes.1,
    )
only_returned header outside h (event.Taken (Down host object control) (message.Lock page count returns flush lock reply) ∷ past) causes =
    let is = taken_down header outside host object control (message.Lock page count returns flush lock reply) past causes.1 causes.0 in
    (λ on. below header object.0 is.0, λ on file. is.1 file, only_returned header outside h past causes.1)
only_returned header outside h (event.Sent (Up host object) (message.Init control size) ∷ past) causes =
    (λ on. (let number = causes.0.1.number in omega (arith, number)), only_returned header outside h past causes.1)
only_returned header outside h (event.Sent (Up host object) (message.Create control size) ∷ past) causes =
    (λ on. (let number = causes.0.1.number in omega (arith, number)), only_returned header outside h past causes.1)
only_returned header outside h (event.Sent (Up host object) (message.Return control page dirty keep bytes) ∷ past) causes = (
  λ on. live_last header outside h object.0 past control causes.1 (subst (λ (z : ℕ). live_control z object.0 past ≡ Some control) on causes.0.1.live),
  only_returned header outside h past causes.1,
)
only_returned header outside h (event.Merged upper lower ∷ past) causes = (causes.0.1.pair.temporary, only_returned header outside h past causes.1)
only_returned header outside h (e ∷ past) causes = only_returned header outside h past causes.1
