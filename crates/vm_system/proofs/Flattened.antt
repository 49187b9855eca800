-- The files hold the flat map: where all was taken, no call of the files has failed, and no control lives.
use Rattle.std.proofs.lemmas.Option.{same_Some}
use Rattle.std.proofs.Common.{ℕ, ◌≡◌, ◌<◌, ◌≤◌, ◌*◌, ◌==◌, ◌&&◌, ◌||◌, not, inl, inr, Bool, true, false, List, [], ◌∷◌, Option, Some, None, refl, sym, ap, ◌∙◌}
use Rattle.std.proofs.Common.{arith, if◌then◌else◌, length}
use Rattle.std.proofs.lemmas.Bool.Decides.{nat_tests}
use Rattle.std.specs.Prelude.{unwrap_or}
use Rattle.std.proofs.lemmas.Bool.{cond-true}
use Rattle.vm_model.specs.declared.command.Numbered.{Numbered}
use Rattle.vm_model.specs.declared.event.Device.TheVariants as device
use Rattle.vm_model.specs.declared.event.Event.{Event}
use Rattle.vm_model.specs.declared.event.Event.TheVariants as event
use Rattle.vm_model.specs.declared.event.Way.{Way}
use Rattle.vm_model.specs.declared.event.Way.TheVariants as way
use Rattle.vm_model.specs.declared.message.Channel.TheVariants.{Up}
use Rattle.vm_model.specs.declared.message.Message.TheVariants as message
use Rattle.vm_model.specs.declared.script.Header.{Header}
use Rattle.vm_model.specs.Channels.{up_port}
use Rattle.vm_model.specs.Controls.{live_control}
use Rattle.vm_model.specs.Homes.{home_of}
use Rattle.vm_model.specs.Moments.{EachEvent}
use Rattle.vm_model.specs.Named.{declared_pages, named}
use Rattle.vm_legal.proofs.Groups.{so_far}
use Rattle.vm_legal.specs.Bytes.{CopiesCurrent}
use Rattle.vm_legal.specs.Flat.{flat_page}
use Rattle.vm_legal.specs.Licences.{DeviceFails, HasCause, pager_has, tells}
use Rattle.vm_legal.specs.Outside.{FilesAtStart, Outside, is_file, is_said, start_in, start_page}
use Rattle.vm_legal.specs.Pagers.{is_lost, last_return, newer}
use Rattle.vm_legal.specs.Steps.{fails_writing, lacks_slot}
use Rattle.vm_legal.specs.Undelivered.{undelivered}
use Rattle.vm_legal.specs.Used.{in_use}
use Rattle.vm_legal.specs.Walks.{page_on}
use Rattle.vm_flat.proofs.Beyond.{none_beyond}
use Rattle.vm_flat.proofs.Settled.{settled}
use Rattle.vm_flat.proofs.Staying.{none_here}
use Rattle.vm_flat.proofs.Using.{by_cause}
use Rattle.vm_quiet.proofs.Letters.{none_queued}
use Rattle.vm_outside.specs.Areas.{Told, read_at}
use Rattle.pg_file.specs.Stands.{FileKept, IsStartTold}
use Rattle.vm_system.specs.Flat.{FilesAreFlat, HasFlatPages, files_failed}
use Rattle.vm_system.specs.Keeping.{FilesAreTold, FilesCarry, MayHave}
use Rattle.vm_legal.proofs.Turns.{any_cut, so_far_of}
use Rattle.vm_system.specs.Steps.{CanonicalOpen}
use Rattle.vm_system.proofs.Homes.{homes}

never_so : {A : Type 0} → true ≡ false → A
never_so is = absurd (cc)

-- the paging area fails for temporary objects alone
paging_fails : (header : Header) (how : Way) (object page : ℕ) (past : List Event) → DeviceFails header device.Paging how object page past
    → named header ≤ object
paging_fails header way.Read object page past c = c.0
paging_fails header way.Write object page past c = c.0

not_there : (header : Header) (o p object page : ℕ) (b : Bool) → is_file header o ≡ true → named header ≤ object → (b && (object == o && page == p)) ≡ false
not_there header o p object page b file above = let below : o < named header = grind (arith, nat_tests) in grind (arith, nat_tests)

or_none : (a b : Bool) → a ≡ false → b ≡ false → (a || b) ≡ false
or_none true b is also = never_so is
or_none false b is also = also

-- a file's page is lost only where a call of the files has failed
never_lost : (header : Header) (outside : Outside) (o p : ℕ) (history : List Event) → EachEvent (HasCause header outside) history → is_file header o ≡ true
    → files_failed history ≡ false → is_lost o p history ≡ false
never_lost header outside o p [] caused file fine = refl
never_lost header outside o p (event.Taken (Up at object) (message.Return control page dirty keep bytes) ∷ past) caused file fine =
    by (object.0 == o && page.0 == p) (never_lost header outside o p past caused.1 file fine)
  where
    by : (b : Bool) → is_lost o p past ≡ false → (if b then false else is_lost o p past) ≡ false
    by true was = refl
    by false was = was
never_lost header outside o p (event.DeviceFailed device.Files how object page ∷ past) caused file fine = never_so fine
never_lost header outside o p (event.DeviceFailed device.Paging how object page ∷ past) caused file fine =
    or_none (fails_writing o p (event.DeviceFailed device.Paging how object page)) (is_lost o p past)
    (by_cause header outside (event.DeviceFailed device.Paging how object page) past caused.0
    (λ doing c. writing how (paging_fails header how object.0 page.0 past c)))
    (never_lost header outside o p past caused.1 file fine)
  where
    writing : (w : Way) → named header ≤ object.0 → fails_writing o p (event.DeviceFailed device.Paging w object page) ≡ false
    writing way.Read above = refl
    writing way.Write above = not_there header o p object.0 page.0 true file above
never_lost header outside o p (event.NoSlot object page ∷ past) caused file fine =
    or_none (lacks_slot o p (event.NoSlot object page)) (is_lost o p past)
    (by_cause header outside (event.NoSlot object page) past caused.0 (λ doing c. not_there header o p object.0 page.0 true file c.temporary))
    (never_lost header outside o p past caused.1 file fine)
never_lost header outside o p (e ∷ past) caused file fine = never_lost header outside o p past caused.1 file fine

told_not_said : (said file paging : Bool) → file ≡ true → (if file then not said else paging) ≡ true → said ≡ false
told_not_said true true paging is tells = absurd (let bad : false ≡ true = tells in cc)
told_not_said false true paging is tells = refl
told_not_said said false paging is tells = absurd (let bad : false ≡ true = is in cc)

-- some host has the file, or none has it yet
somebody : (object : ℕ) (history : List Event) → (host : ℕ) × MayHave host object history
somebody object history = by (home_of object history) refl
  where
    by : (x : Option ℕ) → home_of object history ≡ x → (host : ℕ) × MayHave host object history
    by None is = (0, inl is)
    by (Some host) is = (host, inr is)

pub flat_files : (header : Header) (outside : Outside) (start areas : List ℕ → Told) (run : List Numbered) (h : List Event) → CanonicalOpen header outside run h
    → EachEvent (CopiesCurrent header outside) h → FilesAreTold header outside start → FilesCarry header start areas h
    → FilesAreFlat header outside start areas h
flat_files header outside start areas run h legal current told carry = record {
  beyond = λ o was file is.
      let kept = carry.kept o was file is in
      let who = somebody o h in
      (kept.0, kept.1, (kept.2 who.0 who.1).beyond (declared_pages header o) (λ p above. none_beyond header outside h causes current who.0 o p file above));
  pages = pages;
}
  where
    causes : EachEvent (HasCause header outside) h
    causes = so_far header outside run h (so_far_of header outside run h legal.follows)

    -- the file has what its pager has
    holds : (host o p : ℕ) (was now : Option (List ℕ)) → is_file header o ≡ true → is_lost o p h ≡ false → IsStartTold header outside o was
        → FileKept header.size host o was now h → Some (read_at (unwrap_or now []) (p * header.size) header.size) ≡ pager_has header outside host o p h
    holds host o p was now file fine at kept =
        let start_is : start_page header outside o p ≡ read_at (unwrap_or was []) (p * header.size) header.size = ap
        (λ (files : FilesAtStart). start_in header files o p) at.told ∙ at.page p in
        let begun : (if is_file header o then Some (start_page header outside o p) else None) ≡ Some
        (read_at (unwrap_or was []) (p * header.size) header.size) = cond-true (is_file header o) (Some (start_page header outside o p)) None file
        ∙ ap Some start_is in
        kept.page p fine ∙ ap (λ (x : Option (List ℕ)). newer (last_return host o p h) x) (sym begun)

    pages : undelivered h ≡ [] → files_failed h ≡ false → (host o : ℕ) → host < length header.frames.items → MayHave host o h → live_control host o h ≡ None
        → is_file header o ≡ true → tells header outside o ≡ true → HasFlatPages header outside areas o h
    pages delivered fine host o inside may none file says =
        let at = told.at o says file in
        let kept = carry.kept o at.0 file at.1 in
        let used : in_use header host o h ≡ true = (homes header outside h causes).files o host file may in
        let silent : is_said header outside o ≡ false = told_not_said (is_said header outside o) (is_file header o) outside.paging file says in (
          kept.0,
          kept.1,
          λ p less.
              let away : (page_on header host o p h).here ≡ false = none_here header outside run h
              (any_cut header outside run h (so_far_of header outside run h legal.follows)) current legal.holds.prompt host o p inside file none in
              let has : pager_has header outside host o p h ≡ Some (flat_page header outside o p h) =
              settled header outside h causes current host o p file silent used less (none_queued (up_port host o) h delivered)
              (λ here. absurd (let bad : false ≡ true = sym away ∙ here in cc)) in
              same_Some (read_at (unwrap_or kept.0 []) (p * header.size) header.size) (flat_page header outside o p h)
              (holds host o p at.0 kept.0 file (never_lost header outside o p h causes file fine) at.2 (kept.2 host may) ∙ has),
        )
