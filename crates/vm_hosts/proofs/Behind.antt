-- A pager's taking, and what it said of it, stands in front.
use Rattle.vm_hosts.proofs.Common.{AllInTurn, AllRest, Bool, Command, EachOf, Event, Header, HostId, HostTable, Ids, IsLaundered, IsNobodys, LicensedInTurn}
use Rattle.vm_hosts.proofs.Common.{List, Message, ObjectId, Outside, PagerStep, Parts, Passed, Rests, Up, [], ap, append_assoc, arith, false, gives_frame}
use Rattle.vm_hosts.proofs.Common.{host_id, length, not, of_both, refl, subst, sym, true, ℕ, ◌&&◌, ◌++◌, ◌==◌, ◌∙◌, ◌∷◌, ◌≡◌, ◌≢◌}
use Rattle.vm_model.specs.declared.event.Event.TheVariants as event
use Rattle.vm_model.specs.declared.message.Message.TheVariants as message
use Rattle.vm_hosts.proofs.Acting.{acting_rests, acts_one}
use Rattle.vm_hosts.proofs.Nobodys.{MakesNoControl, all_nobodys, told_controls}
use Rattle.vm_hosts.proofs.Tables.{put, same_number}

-- the first of some events, which are the newest first
abbrev pub first_of : List Event → List Event
first_of [] = []
first_of (e ∷ []) = e ∷ []
first_of (e ∷ f ∷ events) = first_of (f ∷ events)

pub first_is : (told : List Event) (e : Event) → first_of (told ++ e ∷ []) ≡ e ∷ []
first_is [] e = refl
first_is (f ∷ []) e = refl
first_is (f ∷ g ∷ told) e = first_is (g ∷ told) e

licensed_apart : (header : Header) (outside : Outside) (doing : Command) (later front past : List Event) → AllInTurn header outside doing (later ++ front) past
    → AllInTurn header outside doing later (front ++ past) × AllInTurn header outside doing front past
licensed_apart header outside doing [] front past all = (tt, all)
licensed_apart header outside doing (e ∷ later) front past all =
    let rest = licensed_apart header outside doing later front past all.1 in
    ((subst (λ (z : List Event). LicensedInTurn header outside doing e z) (append_assoc later front past) all.0, rest.0), rest.1)

-- a return that kept no copy
unkept : (keep : Bool) → not keep ≡ true → keep ≡ false
unkept true is = absurd (let bad : false ≡ true = is in cc)
unkept false is = refl

laundered_by : (h : ℕ) (object : ObjectId) (m : Message) (front : List Event) → gives_frame m ≡ true → front ≡ event.Taken (Up (host_id h) object) m ∷ []
    → IsLaundered h front
laundered_by h object (message.Return control page dirty keep bytes) front gives is =
    record {
      object = object;
      control = control;
      page = page;
      dirty = dirty;
      bytes = bytes;
      is = is ∙ ap (λ z. event.Taken (Up (host_id h) object) (message.Return control page dirty z bytes) ∷ []) (unkept keep gives);
    }
laundered_by h object other front gives is = absurd (let bad : false ≡ true = gives in cc)

module _ (header : Header) (outside : Outside) (doing : Command) (host : HostId) (past front : List Event) where
  pub laundered_front : (washed : Bool) (h : ℕ) → washed ≡ true → h ≡ host.0 → PagerStep header outside doing host washed past front
      → IsLaundered h (first_of front)
  laundered_front washed h wash same answers =
      laundered_by h answers.object answers.m (first_of front) (answers.gives ∙ wash)
      (ap first_of answers.is ∙ (first_is answers.told (event.Taken (Up host answers.object) answers.m)
      ∙ ap (λ z. event.Taken (Up (host_id z) answers.object) answers.m ∷ []) (sym same)))

  -- a return was out, so the kernel holds its frame
  pub held_out : (washed : Bool) (k : Parts) (ids : Ids) → washed ≡ true → PagerStep header outside doing host washed past front
      → Rests header host.0 k ids past → k.laundry.held ≢ []
  held_out washed k ids wash answers rests none =
      let count = rests.matches.core.pages.washed.count in
      let some = answers.out wash in
      let empty = ap length none in
      omega (arith, count, some, empty)

  -- where a frame comes free its kernel has taken that note, and what the pager said is nobody's
  pub behind_washed : (washed : Bool) (hosts : HostTable) (h : ℕ) (k : Parts) (ids : Ids) (events : List Event) → washed ≡ true → h ≡ host.0
      → PagerStep header outside doing host washed past front → AllRest header hosts past
      → Passed header h outside doing (first_of front ++ past) k ids events → events ≡ [] → AllRest header (put hosts host.0 k ids) (front ++ past)
  behind_washed washed hosts h k ids events wash same answers all passed none =
      let taken = event.Taken (Up host answers.object) answers.m in
      let parts = licensed_apart header outside doing answers.told (taken ∷ []) past
      (subst (λ (z : List Event). AllInTurn header outside doing z past) answers.is answers.licensed) in
      let first : first_of front ≡ taken ∷ [] = ap first_of answers.is ∙ first_is answers.told taken in
      let rests : Rests header host.0 k ids (taken ∷ past) =
      subst (λ (z : ℕ). Rests header z k ids (taken ∷ past)) same
      (subst (λ (z : List Event). Rests header h k ids (z ++ past)) first (subst (λ (z : List Event). Rests header h k ids (z ++ (first_of front ++ past))) none
      passed.rests)) in
      let home : (host.0 == host.0 && gives_frame answers.m) ≡ true = rw (same_number host.0, answers.gives, wash) refl in
      let acts = acts_one header hosts host.0 outside doing past taken all answers.known parts.1.0 home tt tt tt in
      let rest : AllRest header (put hosts host.0 k ids) (taken ∷ past) = acting_rests header host.0 outside doing hosts past (taken ∷ []) all acts k ids
      rests in
      let told = all_nobodys header outside doing (put hosts host.0 k ids) answers.told (taken ∷ past) rest
      (told_controls header outside doing answers.told past taken refl answers.inner parts.0) answers.nobodys parts.0 in
      subst (AllRest header (put hosts host.0 k ids)) (sym (ap (λ z. z ++ past) answers.is ∙ append_assoc answers.told (taken ∷ []) past)) told

  -- else all of it is nobody's
  pub behind_kept : (washed : Bool) (hosts : HostTable) → washed ≡ false → PagerStep header outside doing host washed past front → AllRest header hosts past
      → AllRest header hosts (front ++ past)
  behind_kept washed hosts kept answers all =
      let taken = event.Taken (Up host answers.object) answers.m in
      let parts = licensed_apart header outside doing answers.told (taken ∷ []) past
      (subst (λ (z : List Event). AllInTurn header outside doing z past) answers.is answers.licensed) in
      all_nobodys header outside doing hosts front past all
      (subst (EachOf MakesNoControl) (sym answers.is) (of_both MakesNoControl answers.told (taken ∷ [])
      (told_controls header outside doing answers.told past taken refl answers.inner parts.0) (tt, tt)))
      (subst (EachOf IsNobodys) (sym answers.is) (of_both IsNobodys answers.told (taken ∷ []) answers.nobodys (answers.gives ∙ kept, tt))) answers.licensed
