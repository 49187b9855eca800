-- Only the pager of the host of an object's region hears of the object.
use Rattle.vm_system.proofs.Common.{Bool, Event, Header, HostId, IsHome, List, Message, None, ObjectId, Option, Some, Up, ap, arith, false, home_for, home_of}
use Rattle.vm_system.proofs.Common.{home_stays, if◌then◌else◌, inl, inr, is_heard_elsewhere, is_file, is_made, is_paged, named, nat_lt, nat_tests, never}
use Rattle.vm_system.proofs.Common.{none-some, object_home, object_stays, refl, same_Some, subst, sym, true, up, ℕ, ◌&&◌, ◌==◌, ◌||◌, ◌∙◌, ◌∷◌, ◌≡◌, ◌≢◌, ◌≤◌}
use Rattle.vm_system.proofs.Common.{◌<◌, ◌⊎◌, EachEvent, HasCause, HaveHomes, Outside, homes_next, homes_start, []}
use Rattle.std.specs.Prelude.{not}
use Rattle.vm_model.specs.declared.event.Event.TheVariants as event
use Rattle.vm_legal.proofs.Served.{later_paged}
use Rattle.vm_legal.specs.Outside.{is_file_kept}
use Rattle.vm_model.specs.Named.{declared as found}

-- each history whose events have their causes has them
pub homes : (header : Header) (outside : Outside) (past : List Event) → EachEvent (HasCause header outside) past → HaveHomes header past
homes header outside [] causes = homes_start header
homes header outside (e ∷ past) causes = homes_next header outside e past causes.0 (homes header outside past causes.1)

-- of the declared objects none but a file is served by a file's pager or a default pager
pub paged_file : (header : Header) (o : ℕ) → o < named header → is_paged header o ≡ true → is_file header o ≡ true
paged_file header o low paged = by (nat_lt o (named header)) (is_file_kept (found header o)) (grind (arith, nat_tests)) paged
  where
    by : (b c : Bool) → b ≡ true → not b || (b && c) ≡ true → b && c ≡ true
    by true c below is = is
    by false c below is = never below

-- a declared object's home is its region's, and a temporary one's that of the region that it was made for

chosen : {A : Type 0} → (b c : Bool) (x y : A) → b ≡ c → (if b then x else y) ≡ (if c then x else y)
chosen b c x y is = rw is refl

pub home_declared : (header : Header) (o : ℕ) (past : List Event) → o < named header → home_for header o past ≡ home_of o past
home_declared header o past declared = chosen (nat_lt o (named header)) true (home_of o past) (object_home o past) (grind (arith, nat_tests))

pub home_temporary : (header : Header) (o : ℕ) (past : List Event) → named header ≤ o → home_for header o past ≡ object_home o past
home_temporary header o past temporary = chosen (nat_lt o (named header)) false (home_of o past) (object_home o past) (grind (arith, nat_tests))

-- it stays
for_stays : (header : Header) (h o : ℕ) (e : Event) (past : List Event) → home_for header o past ≡ Some h → home_for header o (e ∷ past) ≡ Some h
for_stays header h o e past is = by (nat_lt o (named header)) is
  where
    by : (b : Bool) → (if b then home_of o past else object_home o past) ≡ Some h → (if b then home_of o (e ∷ past) else object_home o (e ∷ past)) ≡ Some h
    by true is = home_stays o h e past is
    by false is = object_stays o h e past is

-- an object that has no home, or this one, had no other before
before : (h o : ℕ) (e : Event) (past : List Event) → (object_home o (e ∷ past) ≡ None) ⊎ (object_home o (e ∷ past) ≡ Some h) → (object_home o past ≡ None)
    ⊎ (object_home o past ≡ Some h)
before h o e past home = by (object_home o past) refl home
  where
    by : (was : Option ℕ) → object_home o past ≡ was → (object_home o (e ∷ past) ≡ None) ⊎ (object_home o (e ∷ past) ≡ Some h) → (object_home o past ≡ None)
        ⊎ (object_home o past ≡ Some h)
    by None is home = inl is
    by (Some g) is (inl none) = absurd (none-some g (sym none ∙ object_stays o g e past is))
    by (Some g) is (inr here) = inr (is ∙ sym (object_stays o g e past is) ∙ here)

-- no pager hears of an object, and a channel is made on the host of its region alone
pub home_kept : (header : Header) (h o : ℕ) (e : Event) (past : List Event) → IsHome header h o past
    → (is_paged header o ≡ true → is_made (up h o) (e ∷ past) ≡ true → home_for header o past ≡ Some h)
    → is_heard_elsewhere h o (e ∷ past) ≡ is_heard_elsewhere h o past → IsHome header h o (e ∷ past)
home_kept header h o e past old made same =
    record { made = λ paged is. for_stays header h o e past (made paged is); own = λ temporary home. same ∙ old.own temporary (before h o e past home) }

other_host : (a h n o : ℕ) → (not (a == h) && n == o) ≡ true → a ≢ h
other_host a h n o is = grind (arith, nat_tests)

same_object : (a h n o : ℕ) → (not (a == h) && n == o) ≡ true → n ≡ o
same_object a h n o is = grind (arith, nat_tests)

elsewhere : (a g n : ℕ) → g ≢ a → (not (a == g) && n == n) ≡ true
elsewhere a g n other = grind (arith, nat_tests)

-- a pager hears of an object of its own host
pub home_taken : (header : Header) (host : HostId) (object : ObjectId) (m : Message) (past : List Event) (h o : ℕ) → IsHome header h o past
    → (is_paged header object.0 ≡ true → home_for header object.0 past ≡ Some host.0)
    → IsHome header h o (event.Taken (Up host object) m ∷ past)
home_taken header host object m past h o old here =
    record {
      made = λ paged is. for_stays header h o (event.Taken (Up host object) m) past (old.made paged is);
      own = λ temporary home. by temporary (not (host.0 == h) && object.0 == o) refl (before h o (event.Taken (Up host object) m) past home);
    }
  where
    its : named header ≤ o → (not (host.0 == h) && object.0 == o) ≡ true → object_home o past ≡ Some host.0
    its temporary is =
        let same : object.0 ≡ o = same_object host.0 h object.0 o is in
        sym (home_temporary header o past temporary) ∙ subst (λ (n : ℕ). home_for header n past ≡ Some host.0) same
        (here (subst (λ (n : ℕ). is_paged header n ≡ true) (sym same) (later_paged header o temporary)))

    by : named header ≤ o → (b : Bool) → (not (host.0 == h) && object.0 == o) ≡ b → (object_home o past ≡ None) ⊎ (object_home o past ≡ Some h)
        → b || is_heard_elsewhere h o past ≡ false
    by temporary false is home = old.own temporary home
    by temporary true is (inl none) = absurd (none-some host.0 (sym none ∙ its temporary is))
    by temporary true is (inr own) = absurd (other_host host.0 h object.0 o is (same_Some host.0 h (sym (its temporary is) ∙ own)))

-- it is another host's for all other pagers
pub elsewhere_taken : (host : HostId) (object : ObjectId) (m : Message) (past : List Event) (g : ℕ) → g ≢ host.0
    → is_heard_elsewhere g object.0 (event.Taken (Up host object) m ∷ past) ≡ true
elsewhere_taken host object m past g other = ap (λ (b : Bool). b || is_heard_elsewhere g object.0 past) (elsewhere host.0 g object.0 other)
