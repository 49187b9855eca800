-- A page of a file is on a host only while a control of the file lives there.
use Rattle.std.proofs.Common.{ℕ, ◌≡◌, ◌<◌, ◌≤◌, inl, inr, List, [], ◌∷◌, Bool, true, false, Option, Some, None, refl, sym, ap, subst, ◌∙◌, arith, if◌then◌else◌}
use Rattle.std.proofs.lemmas.Bool.Decides.{nat_tests}
use Rattle.std.specs.Prelude.{◌==◌, ◌&&◌, ◌⊎◌, is_some, length}
use Rattle.vm_base.specs.Pages.{little_endian_bytes}
use Rattle.vm_base.specs.declared.ids.HostId.{HostId}
use Rattle.vm_base.specs.declared.ids.ObjectId.{ObjectId}
use Rattle.vm_model.specs.declared.command.Command.{Command}
use Rattle.vm_model.specs.declared.event.Event.{Event}
use Rattle.vm_model.specs.declared.event.Event.TheVariants as event
use Rattle.vm_model.specs.declared.message.Channel.TheVariants.{Down, Up}
use Rattle.vm_model.specs.declared.message.Message.{Message}
use Rattle.vm_model.specs.declared.message.Message.TheVariants as message
use Rattle.vm_model.specs.declared.script.Header.{Header}
use Rattle.vm_model.specs.Controls.{is_control, live_control, without_control}
use Rattle.vm_model.specs.Local.{Local, LocalEffect, Asks, Begins, Drops, Elsewhere, Ends, Raises, Returns, Stores, Unlocks, Zeroes, effect, is_on, local}
use Rattle.vm_model.specs.Local.{local_after, taken_effect}
use Rattle.vm_model.specs.Moments.{BeforeSteps, EachEvent}
use Rattle.vm_model.specs.Named.{named}
use Rattle.vm_model.specs.Tasks.{host_of}
use Rattle.vm_legal.specs.Bytes.{CopiesCurrent}
use Rattle.vm_legal.specs.Licences.{Bottoms, CopiesPage, Fills, Finding, HasCause, MaySendUp, Pushing, Raises as RaisesPage}
use Rattle.vm_legal.specs.Outside.{Outside, is_file}
use Rattle.vm_legal.specs.Prompt.{Prompt}
use Rattle.vm_legal.specs.Walks.{page_on}
use Rattle.vm_flat.proofs.Filling.{Filling}
use Rattle.vm_flat.proofs.Holds.{Holds}
use Rattle.vm_flat.proofs.Law.{holds}
use Rattle.vm_flat.proofs.MergeEffects.{merge_apart}
use Rattle.vm_flat.proofs.Numbers.{NumberedAt}
use Rattle.vm_flat.proofs.Takings.{TakingKeeps, lives_on_then, takings_keep}
use Rattle.vm_legal.proofs.Groups.{any_cut_caused}
use Rattle.vm_legal.specs.Follows.{FollowsAnyCut}
use Rattle.vm_model.specs.declared.command.Numbered.{Numbered}
use Rattle.vm_flat.proofs.Translation.{sustained}
use Rattle.vm_flat.proofs.Using.{by_cause}
use Rattle.vm_flat.proofs.Voids.{absent}
use Rattle.vm_legal.proofs.Files.{file_named}

-- where the page is here behind an effect, the control lives
abbrev Stays : ℕ → LocalEffect → Local → Option ℕ → Type 0
Stays size e was live = (local_after size e was).here ≡ true → is_some live ≡ true

abbrev Was : Local → Option ℕ → Type 0
Was was live = was.here ≡ true → is_some live ≡ true

stays_if : (size : ℕ) (b : Bool) (e : LocalEffect) (was : Local) (live : Option ℕ) → (b ≡ true → Stays size e was live) → Was was live
    → Stays size (if b then e else Elsewhere) was live
stays_if size true e was live one two = one refl
stays_if size false e was live one two = two

stays_two : (size : ℕ) (b c : Bool) (e : LocalEffect) (was : Local) (live : Option ℕ) → Stays size e was live → Was was live
    → Stays size (if b then (if c then e else Elsewhere) else Elsewhere) was live
stays_two size true true e was live one two = one
stays_two size true false e was live one two = two
stays_two size false c e was live one two = two

-- what the live control takes
counts : (control : ℕ) (live : Option ℕ) (a b : Bool) → (a && (b && is_control control live)) ≡ true → is_some live ≡ true
counts control (Some k) a b is = refl
counts control None a b is = absurd (none a b is)
  where
    none : (a b : Bool) → (a && (b && false)) ≡ true → ⊥
    none true true is = let bad : false ≡ true = is in cc
    none true false is = let bad : false ≡ true = is in cc
    none false b is = let bad : false ≡ true = is in cc

-- a control begins, or ends with nothing here
begins : (size : ℕ) (b : Bool) (control : ℕ) (was : Local) (live : Option ℕ) → Was was live
    → Stays size (if b then Begins else Elsewhere) was (if b then Some control else live)
begins size true control was live same here = refl
begins size false control was live same here = same here

ends : (size : ℕ) (b c : Bool) (control : ℕ) (was : Local) (live : Option ℕ) → (b ≡ true → was.here ≡ false) → Was was live
    → Stays size (if b then (if c then Ends else Elsewhere) else Elsewhere) was (if b then without_control control live else live)
ends size true true control was live away same here = absurd (let bad : false ≡ true = sym (away refl) ∙ here in cc)
ends size true false control was live away same here = absurd (let bad : false ≡ true = sym (away refl) ∙ here in cc)
ends size false c control was live away same here = same here

same_page : (header : Header) (past : List Event) (at object host o p : ℕ) → (at == host && object == o) ≡ true → (page_on header at object p past).here ≡ false
    → (page_on header host o p past).here ≡ false
same_page header past at object host o p is away =
    let at_is : at ≡ host = grind (arith, nat_tests) in
    let object_is : object ≡ o = grind (arith, nat_tests) in
    subst (λ (h : ℕ). (page_on header h o p past).here ≡ false) at_is (subst (λ (k : ℕ). (page_on header at k p past).here ≡ false) object_is away)

sent_up : (header : Header) (host o p : ℕ) (at : HostId) (object : ObjectId) (m : Message) (past : List Event)
    → ((doing : Command) × MaySendUp header doing at.0 object.0 m past) → Was (page_on header host o p past) (live_control host o past)
    → Stays header.size (effect header host (record { object = o; page = p }) (λ source. local header host source past) (event.Sent (Up at object) m) past)
    (page_on header host o p past) (live_control host o (event.Sent (Up at object) m ∷ past))
sent_up header host o p at object (message.Init control size) past c was =
    begins header.size (at.0 == host && object.0 == o) control (page_on header host o p past) (live_control host o past) was
sent_up header host o p at object (message.Create control size) past c was =
    begins header.size (at.0 == host && object.0 == o) control (page_on header host o p past) (live_control host o past) was
sent_up header host o p at object (message.Terminate control) past c was =
    ends header.size (at.0 == host && object.0 == o) (is_control control (live_control host o past)) control (page_on header host o p past)
    (live_control host o past) (λ is. same_page header past at.0 object.0 host o p is (c.1.away p)) was
sent_up header host o p at object (message.Request control page access) past c was =
    stays_two header.size (at.0 == host && object.0 == o) (page.0 == p && is_control control (live_control host o past)) Asks (page_on header host o p past)
    (live_control host o past) was was
sent_up header host o p at object (message.Return control page dirty true bytes) past c was =
    stays_two header.size (at.0 == host && object.0 == o) (page.0 == p) (Returns true) (page_on header host o p past) (live_control host o past) was was
sent_up header host o p at object (message.Return control page dirty false bytes) past c was =
    stays_two header.size (at.0 == host && object.0 == o) (page.0 == p) (Returns false) (page_on header host o p past) (live_control host o past)
    (λ here. absurd (let bad : false ≡ true = here in cc)) was
sent_up header host o p at object (message.Unlock control page access) past c was =
    stays_two header.size (at.0 == host && object.0 == o) (page.0 == p) Unlocks (page_on header host o p past) (live_control host o past) was was
sent_up header host o p at object (message.Completed control page count) past c was =
    stays_if header.size (at.0 == host && object.0 == o) Elsewhere (page_on header host o p past) (live_control host o past) (λ is. was) was
sent_up header host o p at object (message.Changed control cache strategy) past c was =
    stays_if header.size (at.0 == host && object.0 == o) Elsewhere (page_on header host o p past) (live_control host o past) (λ is. was) was
sent_up header host o p at object m past c was = absurd c.1

-- zeros come where the pager has no such page, and then the control lives
zeroed : (header : Header) (outside : Outside) (host o p at object page : ℕ) (past : List Event) → EachEvent (HasCause header outside) past
    → EachEvent (CopiesCurrent header outside) past → EachEvent TakingKeeps past → BeforeSteps (Prompt header) past → host < length header.frames.items
    → o < named header → (at == host && (object == o && page == p)) ≡ true → Fills header at object page past ⊎ Bottoms header at object page past
    → is_some (live_control host o past) ≡ true
zeroed header outside host o p at object page past caused current keeps prompt inside below same (inl fills) =
    let at_is : at ≡ host = grind (arith, nat_tests) in
    let object_is : object ≡ o = grind (arith, nat_tests) in
    let page_is : page ≡ p = grind (arith, nat_tests) in
    lives_on_then header outside host o p past caused current keeps prompt inside below
    (fills.void ∙ ap (λ (h : ℕ). Some (absent h object page)) at_is ∙ ap (λ (k : ℕ). Some (absent host k page)) object_is
    ∙ ap (λ (q : ℕ). Some (absent host o q)) page_is)
zeroed header outside host o p at object page past caused current keeps prompt inside below same (inr bottoms) =
    let object_is : object ≡ o = grind (arith, nat_tests) in absurd (let above = bottoms.temporary in omega (arith, above, object_is, below))

raised : {A : Type 0} (header : Header) (host lower lower_page upper upper_page o : ℕ) (past : List Event) → NumberedAt header past → o < named header
    → upper ≡ o → RaisesPage header host lower lower_page upper upper_page past → A
raised header host lower lower_page upper upper_page o past num below same (Finding c) =
    let above = num.upper upper c.walks.1 in absurd (omega (arith, above, same, below))
raised header host lower lower_page upper upper_page o past num below same (Pushing c) =
    let above = num.newest lower upper c.owes.newest in absurd (omega (arith, above, same, below))

-- a slow copy fills a temporary object
copied : {A : Type 0} (header : Header) (outside : Outside) (task index object page target o : ℕ) (past : List Event) → NumberedAt header past
    → Filling header outside past → o < named header → target ≡ o → CopiesPage header task index object page target past → A
copied header outside task index object page target o past num filling below same c =
    let fill = filling task c.waits.at.host c.address c.bytes c.to (record { region = c.region; object = target }) c.waits.at.lives c.waits.waits c.filled in
    let above : named header ≤ target = subst (λ (n : ℕ). named header ≤ n) fill.top (num.temporary c.region fill.later fill.made) in
    absurd (omega (arith, above, same, below))

taken : (size : ℕ) (b : Bool) (p : ℕ) (m : Message) (was : Local) (live : Option ℕ) → (b ≡ true → is_some live ≡ true) → Was was live
    → Stays size (if b then taken_effect p m else Elsewhere) was live
taken size true p m was live lives same = λ here. lives refl
taken size false p m was live lives same = same

pub stays : (header : Header) (outside : Outside) (history : List Event) → EachEvent (HasCause header outside) history
    → EachEvent (CopiesCurrent header outside) history → EachEvent TakingKeeps history → BeforeSteps (Prompt header) history → (host o p : ℕ)
    → host < length header.frames.items → is_file header o ≡ true → (page_on header host o p history).here ≡ true → is_some (live_control host o history) ≡ true
stays header outside [] caused current keeps prompt host o p inside file = λ here. absurd (let bad : false ≡ true = here in cc)
stays header outside (event.Line line ∷ past) caused current keeps prompt host o p inside file =
    stays header outside past caused.1 current.1 keeps.1 prompt.1 host o p inside file
stays header outside (event.Taken (Up at object) m ∷ past) caused current keeps prompt host o p inside file =
    stays header outside past caused.1 current.1 keeps.1 prompt.1 host o p inside file
stays header outside (event.Taken (Down at object control) m ∷ past) caused current keeps prompt host o p inside file =
    taken header.size (at.0 == host && (object.0 == o && is_control control (live_control host o past))) p m (page_on header host o p past)
    (live_control host o past) (counts control (live_control host o past) (at.0 == host) (object.0 == o))
    (stays header outside past caused.1 current.1 keeps.1 prompt.1 host o p inside file)
stays header outside (event.Zeroed at object page ∷ past) caused current keeps prompt host o p inside file =
    stays_if header.size (at.0 == host && (object.0 == o && page.0 == p)) Zeroes (page_on header host o p past) (live_control host o past)
    (λ is here. by_cause header outside (event.Zeroed at object page) past caused.0
    (λ doing c. zeroed header outside host o p at.0 object.0 page.0 past caused.1 current.1 keeps.1 prompt inside (file_named header o file) is c))
    (stays header outside past caused.1 current.1 keeps.1 prompt host o p inside file)
stays header outside (event.Raised at lower lower_page upper upper_page ∷ past) caused current keeps prompt host o p inside file =
    stays_if header.size (at.0 == host && (upper.0 == o && upper_page.0 == p)) (Raises (page_on header host lower.0 lower_page.0 past).bytes)
    (page_on header host o p past) (live_control host o past)
    (λ is here. by_cause header outside (event.Raised at lower lower_page upper upper_page) past caused.0 (λ doing c.
    let same : upper.0 ≡ o = grind (arith, nat_tests) in
    raised header at.0 lower.0 lower_page.0 upper.0 upper_page.0 o past (holds header outside past (sustained header outside past caused.1) current.1).numbered
    (file_named header o file) same c))
    (stays header outside past caused.1 current.1 keeps.1 prompt host o p inside file)
stays header outside (event.CopiedPage task page object object_page target ∷ past) caused current keeps prompt host o p inside file =
    stays_if header.size (is_on host (host_of task.0 past) && (target.0 == o && page.0 == p)) (Raises (page_on header host object.0 object_page.0 past).bytes)
    (page_on header host o p past) (live_control host o past)
    (λ is here. by_cause header outside (event.CopiedPage task page object object_page target) past caused.0 (λ doing c.
    let same : target.0 ≡ o = grind (arith, nat_tests) in
    let h : Holds header outside past = holds header outside past (sustained header outside past caused.1) current.1 in
    copied header outside task.0 page.0 object.0 object_page.0 target.0 o past h.numbered h.filling (file_named header o file) same c))
    (stays header outside past caused.1 current.1 keeps.1 prompt host o p inside file)
stays header outside (event.Stored task object page at size value ∷ past) caused current keeps prompt host o p inside file =
    stays_if header.size (is_on host (host_of task.0 past) && (object.0 == o && page.0 == p)) (Stores at (little_endian_bytes size value))
    (page_on header host o p past) (live_control host o past)
    (λ is. stays header outside past caused.1 current.1 keeps.1 prompt host o p inside file)
    (stays header outside past caused.1 current.1 keeps.1 prompt host o p inside file)
stays header outside (event.Dropped at object page ∷ past) caused current keeps prompt host o p inside file =
    stays_if header.size (at.0 == host && (object.0 == o && page.0 == p)) Drops (page_on header host o p past) (live_control host o past)
    (λ is here. absurd (let bad : false ≡ true = here in cc))
    (stays header outside past caused.1 current.1 keeps.1 prompt host o p inside file)
stays header outside (event.Merged upper lower ∷ past) caused current keeps prompt host o p inside file =
    subst (λ (f : LocalEffect). Stays header.size f (page_on header host o p past) (live_control host o past))
    (sym (merge_apart header host (record { object = o; page = p }) (λ source. local header host source past) upper lower past
    (λ same. by_cause header outside (event.Merged upper lower) past caused.0 (λ doing c.
    let above = (holds header outside past (sustained header outside past caused.1) current.1).numbered.upper upper.0 c.pair.backed in
    absurd (omega (arith, above, same, file_named header o file))))
    (λ same. by_cause header outside (event.Merged upper lower) past caused.0 (λ doing c.
    absurd (omega (arith, c.pair.temporary, same, file_named header o file))))))
    (stays header outside past caused.1 current.1 keeps.1 prompt host o p inside file)
stays header outside (event.Sent (Up at object) m ∷ past) caused current keeps prompt host o p inside file =
    sent_up header host o p at object m past caused.0 (stays header outside past caused.1 current.1 keeps.1 prompt host o p inside file)
stays header outside (event.Sent (Down at object control) m ∷ past) caused current keeps prompt host o p inside file =
    stays header outside past caused.1 current.1 keeps.1 prompt host o p inside file
stays header outside (e ∷ past) caused current keeps prompt host o p inside file =
    stays header outside past caused.1 current.1 keeps.1 prompt host o p inside file

-- where no control lives nothing of the file is here
pub none_here : (header : Header) (outside : Outside) (commands : List Numbered) (history : List Event) → FollowsAnyCut header outside commands history
    → EachEvent (CopiesCurrent header outside) history → BeforeSteps (Prompt header) history → (host o p : ℕ)
    → host < length header.frames.items → is_file header o ≡ true → live_control host o history ≡ None → (page_on header host o p history).here ≡ false
none_here header outside commands history follows current prompt host o p inside file none = by (page_on header host o p history).here refl
  where
    lives : (page_on header host o p history).here ≡ true → is_some (live_control host o history) ≡ true
    lives here =
        stays header outside history (any_cut_caused header outside commands history follows) current (takings_keep header outside commands history follows)
        prompt host o p inside file here

    by : (b : Bool) → (page_on header host o p history).here ≡ b → b ≡ false
    by true is = absurd (let some = lives is in let bad : false ≡ true = sym (ap is_some none) ∙ some in cc)
    by false is = refl
