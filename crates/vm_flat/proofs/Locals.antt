-- A place is what its host has of the page.
use Rattle.std.proofs.Common.{◌≡◌, ℕ, ◌==◌, ◌&&◌, ◌∙◌, List, [], ◌∷◌, arith, Bool, true, false, Option, Some, None, if◌then◌else◌, refl, ap, subst, sym}
use Rattle.std.proofs.Common.{replicate, ◌+◌}
use Rattle.std.specs.Prelude.{not, nat_lt, ◌||◌}
use native.Mathlib.Decide.{ℕ_discrete}
use Rattle.std.proofs.lemmas.Bool.Decides.{nat_tests}
use Rattle.vm_base.specs.Pages.{little_endian_bytes, with_bytes}
use Rattle.vm_base.specs.declared.ids.HostId.{HostId}
use Rattle.vm_base.specs.declared.ids.ObjectId.{ObjectId}
use Rattle.vm_model.specs.declared.message.Channel.TheVariants.{Up, Down}
use Rattle.vm_model.specs.declared.message.Message.{Message}
use Rattle.vm_model.specs.declared.message.Message.TheVariants as message
use Rattle.vm_model.specs.declared.command.Command.{Command}
use Rattle.vm_model.specs.declared.event.Event.{Event}
use Rattle.vm_model.specs.declared.event.Event.TheVariants as event
use Rattle.vm_model.specs.declared.script.Header.{Header}
use Rattle.vm_model.specs.Controls.{is_control, without_control, control_after, last_control, live_after, live_control}
use Rattle.vm_model.specs.Founded.{IsFounded}
use Rattle.vm_model.specs.Local as L
use Rattle.vm_model.specs.Homes.{object_home}
use Rattle.vm_model.specs.Regions.{backing_of, object_pages}
use Rattle.vm_model.specs.Local.{Local, Elsewhere, is_known_absent, is_on, local, local_after, taken_effect}
use Rattle.vm_model.specs.Moments.{EachEvent}
use Rattle.vm_model.specs.Words.{in_range}
use Rattle.vm_model.specs.Named.{declared, named}
use Rattle.vm_legal.specs.Licences as licence
use Rattle.vm_legal.specs.Licences.{Caused, HasCause, MaySendUp}
use Rattle.vm_legal.specs.Outside.{Outside, is_file, is_file_kept, is_from_told, is_private_from, is_said, zeros}
use Rattle.vm_legal.specs.Living.{lives_on}
use Rattle.vm_flat.specs.Words.{SpotDownWord, Supplying, Unavailing, Erring, SpotEffect, Creates, Requests, Returns, TakesRequest, TakesReturn, Answers, Takes}
use Rattle.vm_flat.specs.Words.{Zeroes, Raises, Stores, Drops, Moves, Ends, StepEnds, Nothing}
use Rattle.vm_flat.specs.Spot.{Spot, spot_after}
use Rattle.vm_flat.specs.Locals.{SpotIsLocal}
use Rattle.vm_flat.proofs.Regions.{eq_yes, eq_no}
use Rattle.vm_flat.specs.Places.{effect_sent_up, effect_taken_up, effect_sent_down, effect_taken_down, spot}
use Rattle.vm_model.proofs.Ports.{same_control}

-- what the tie reads of a place
same : (file : Bool) (last : ℕ) (live : Option ℕ) (s t : Spot) (page : Local) → t.here ≡ s.here → t.bytes ≡ s.bytes → t.dirty ≡ s.dirty → t.asked ≡ s.asked
    → t.absent ≡ s.absent → t.file ≡ s.file → t.control ≡ s.control → SpotIsLocal file last live s page → SpotIsLocal file last live t page
same file last live s t page here bytes dirty asked absent files control i =
    record {
      here = here ∙ i.here;
      bytes = bytes ∙ i.bytes;
      dirty = dirty ∙ i.dirty;
      asked = asked ∙ i.asked;
      absent = absent ∙ i.absent;
      file = files ∙ i.file;
      control = ap (λ (n : ℕ). if n == 1 then Some last else None) control ∙ i.control;
    }

never : {A : Type 0} → false ≡ true → A
never e = absurd (let bad : false ≡ true = e in cc)

number_is : (a b : ℕ) → (a == b) ≡ true → a ≡ b
number_is a b is = grind (arith, nat_tests)

-- each effect moves both alike

creates : (z : List ℕ) (size : ℕ) (file : Bool) (last control : ℕ) (live : Option ℕ) (s : Spot) (page : Local) → SpotIsLocal file last live s page
    → SpotIsLocal file control (Some control) (spot_after z s Creates) (local_after size L.Begins page)
creates z size file last control live s page i =
    record { here = i.here; bytes = i.bytes; dirty = i.dirty; asked = refl; absent = i.absent; file = i.file; control = refl }

ends : (z : List ℕ) (size : ℕ) (file : Bool) (last : ℕ) (live : Option ℕ) (s : Spot) (page : Local) → SpotIsLocal file last live s page
    → SpotIsLocal file last None (spot_after z s Ends) (local_after size L.Ends page)
ends z size file last live s page i =
    record { here = i.here; bytes = i.bytes; dirty = i.dirty; asked = refl; absent = i.absent; file = i.file; control = dead s.file }
  where
    dead : (b : Bool) → (if (if b then 0 else 2) == 1 then Some last else None) ≡ None
    dead true = refl
    dead false = refl

requests : (z : List ℕ) (size : ℕ) (file : Bool) (last : ℕ) (live : Option ℕ) (s : Spot) (page : Local) (lives : Bool) → SpotIsLocal file last live s page
    → SpotIsLocal file last live (spot_after z s (Requests lives)) (local_after size (if lives then L.Asks else Elsewhere) page)
requests z size file last live s page true i =
    record { here = i.here; bytes = i.bytes; dirty = i.dirty; asked = refl; absent = i.absent; file = i.file; control = i.control }
requests z size file last live s page false i =
    record { here = i.here; bytes = i.bytes; dirty = i.dirty; asked = i.asked; absent = i.absent; file = i.file; control = i.control }

and_false : (b : Bool) → (b && false) ≡ false
and_false true = refl
and_false false = refl

returns : (z : List ℕ) (size : ℕ) (file : Bool) (last : ℕ) (live : Option ℕ) (s : Spot) (page : Local) (keep : Bool) (bytes : List ℕ)
    → SpotIsLocal file last live s page → SpotIsLocal file last live (spot_after z s (Returns keep bytes)) (local_after size (L.Returns keep) page)
returns z size file last live s page true bytes i =
    record { here = i.here; bytes = i.bytes; dirty = refl; asked = i.asked; absent = sym (and_false (not file)); file = i.file; control = i.control }
returns z size file last live s page false bytes i =
    record { here = refl; bytes = refl; dirty = refl; asked = i.asked; absent = sym (and_false (not file)); file = i.file; control = i.control }

zeroes : (z : List ℕ) (size : ℕ) (file : Bool) (last : ℕ) (live : Option ℕ) (s : Spot) (page : Local) → z ≡ replicate size 0 → SpotIsLocal file last live s page
    → SpotIsLocal file last live (spot_after z s Zeroes) (local_after size L.Zeroes page)
zeroes z size file last live s page is i =
    record { here = refl; bytes = is; dirty = refl; asked = i.asked; absent = i.absent; file = i.file; control = i.control }

raises : (z : List ℕ) (size : ℕ) (file : Bool) (last : ℕ) (live : Option ℕ) (s : Spot) (page : Local) (b c : List ℕ) → b ≡ c → SpotIsLocal file last live s page
    → SpotIsLocal file last live (spot_after z s (Raises b)) (local_after size (L.Raises c) page)
raises z size file last live s page b c is i =
    record { here = refl; bytes = is; dirty = refl; asked = i.asked; absent = i.absent; file = i.file; control = i.control }

stores : (z : List ℕ) (size : ℕ) (file : Bool) (last : ℕ) (live : Option ℕ) (s : Spot) (page : Local) (at : ℕ) (bytes : List ℕ)
    → SpotIsLocal file last live s page → SpotIsLocal file last live (spot_after z s (Stores at bytes)) (local_after size (L.Stores at bytes) page)
stores z size file last live s page at bytes i =
    record { here = i.here; bytes = ap (with_bytes at bytes) i.bytes; dirty = refl; asked = i.asked; absent = i.absent; file = i.file; control = i.control }

drops : (z : List ℕ) (size : ℕ) (file : Bool) (last : ℕ) (live : Option ℕ) (s : Spot) (page : Local) → SpotIsLocal file last live s page
    → SpotIsLocal file last live (spot_after z s Drops) (local_after size L.Drops page)
drops z size file last live s page i =
    record { here = refl; bytes = refl; dirty = refl; asked = i.asked; absent = i.absent; file = i.file; control = i.control }

-- what the control takes, whether it lives or not

supplied : (z : List ℕ) (size : ℕ) (file : Bool) (last : ℕ) (live : Option ℕ) (s : Spot) (page : Local) (lock : ℕ) (precious : Bool) (bytes : List ℕ)
    (b c a : Bool) → (s.control == 1) ≡ b → s.asked ≡ c → page.asked ≡ a → SpotIsLocal file last live s page
    → SpotIsLocal file last live (spot_after z s (Takes (Supplying bytes))) (if b then local_after size (L.TakesPage lock precious bytes) page else page)
supplied z size file last live s page lock precious bytes true true true is e f i =
    rw (is, e, f) (record { here = refl; bytes = refl; dirty = refl; asked = refl; absent = i.absent; file = i.file; control = i.control })
supplied z size file last live s page lock precious bytes true false false is e f i =
    rw (is, e, f) (record { here = i.here; bytes = i.bytes; dirty = i.dirty; asked = refl; absent = i.absent; file = i.file; control = i.control })
supplied z size file last live s page lock precious bytes false c a is e f i =
    rw is (record { here = i.here; bytes = i.bytes; dirty = i.dirty; asked = i.asked; absent = i.absent; file = i.file; control = i.control })
supplied z size file last live s page lock precious bytes true true false is e f i = never (sym f ∙ sym i.asked ∙ e)
supplied z size file last live s page lock precious bytes true false true is e f i = never (sym e ∙ i.asked ∙ f)

lacks : (z : List ℕ) (size : ℕ) (file : Bool) (last : ℕ) (live : Option ℕ) (s : Spot) (page : Local) (b c a : Bool) → (s.control == 1) ≡ b → s.asked ≡ c
    → page.asked ≡ a → SpotIsLocal file last live s page
    → SpotIsLocal file last live (spot_after z s (Takes Unavailing)) (if b then local_after size L.TakesNothing page else page)
lacks z size file last live s page true true true is e f i =
    rw (is, e, f) (record {
      here = i.here;
      bytes = i.bytes;
      dirty = i.dirty;
      asked = refl;
      absent = told s.file file i.file i.absent;
      file = i.file;
      control = i.control;
    })
  where
    told : (t f : Bool) → t ≡ f → s.absent ≡ (not f && page.absent) → (if not t then true else s.absent) ≡ (not f && true)
    told true true is was = was
    told false false is was = refl
    told true false is was = never (sym is)
    told false true is was = never is
lacks z size file last live s page true false false is e f i =
    rw (is, e, f) (record { here = i.here; bytes = i.bytes; dirty = i.dirty; asked = refl; absent = i.absent; file = i.file; control = i.control })
lacks z size file last live s page false c a is e f i =
    rw is (record { here = i.here; bytes = i.bytes; dirty = i.dirty; asked = i.asked; absent = i.absent; file = i.file; control = i.control })
lacks z size file last live s page true true false is e f i = never (sym f ∙ sym i.asked ∙ e)
lacks z size file last live s page true false true is e f i = never (sym e ∙ i.asked ∙ f)

errs : (z : List ℕ) (size : ℕ) (file : Bool) (last : ℕ) (live : Option ℕ) (s : Spot) (page : Local) (b c a : Bool) → (s.control == 1) ≡ b → s.asked ≡ c
    → page.asked ≡ a → SpotIsLocal file last live s page
    → SpotIsLocal file last live (spot_after z s (Takes Erring)) (if b then local_after size L.TakesError page else page)
errs z size file last live s page true true a is e f i =
    rw (is, e) (record { here = i.here; bytes = i.bytes; dirty = i.dirty; asked = refl; absent = i.absent; file = i.file; control = i.control })
errs z size file last live s page true false a is e f i =
    rw (is, e) (record { here = i.here; bytes = i.bytes; dirty = i.dirty; asked = refl; absent = i.absent; file = i.file; control = i.control })
errs z size file last live s page false c a is e f i =
    rw is (record { here = i.here; bytes = i.bytes; dirty = i.dirty; asked = i.asked; absent = i.absent; file = i.file; control = i.control })

-- what leaves the tie as it is

pub record IsIdle (s t : Spot) : Type 0 where
  pub here : t.here ≡ s.here
  pub bytes : t.bytes ≡ s.bytes
  pub dirty : t.dirty ≡ s.dirty
  pub asked : t.asked ≡ s.asked
  pub absent : t.absent ≡ s.absent
  pub file : t.file ≡ s.file
  pub control : t.control ≡ s.control

idle : (file : Bool) (last : ℕ) (live : Option ℕ) (s t : Spot) (page : Local) → IsIdle s t → SpotIsLocal file last live s page
    → SpotIsLocal file last live t page
idle file last live s t page e i = same file last live s t page e.here e.bytes e.dirty e.asked e.absent e.file e.control i

idle_if : (z : List ℕ) (s : Spot) (b : Bool) (e f : SpotEffect) → IsIdle s (spot_after z s e) → IsIdle s (spot_after z s f)
    → IsIdle s (spot_after z s (if b then e else f))
idle_if z s true e f one two = one
idle_if z s false e f one two = two

step_idle : (z : List ℕ) (s : Spot) → IsIdle s (spot_after z s StepEnds)
step_idle z s = record { here = refl; bytes = refl; dirty = refl; asked = refl; absent = refl; file = refl; control = refl }

nothing_idle : (z : List ℕ) (s : Spot) → IsIdle s (spot_after z s Nothing)
nothing_idle z s = record { here = refl; bytes = refl; dirty = refl; asked = refl; absent = refl; file = refl; control = refl }

taken_up_idle : (z : List ℕ) (s : Spot) (o p : ℕ) (own : Bool) (object : ℕ) (m : Message) → IsIdle s (spot_after z s (effect_taken_up o p own object m))
taken_up_idle z s o p own object (message.Request control page access) =
    idle_if z s (own && (object == o && page.0 == p)) TakesRequest StepEnds (record
    { here = refl; bytes = refl; dirty = refl; asked = refl; absent = refl; file = refl; control = refl }) (step_idle z s)
taken_up_idle z s o p own object (message.Return control page dirty keep bytes) =
    idle_if z s (own && (object == o && page.0 == p)) (TakesReturn bytes) StepEnds
    (record { here = refl; bytes = refl; dirty = refl; asked = refl; absent = refl; file = refl; control = refl }) (step_idle z s)
taken_up_idle z s o p own object m = step_idle z s

answers_idle : (z : List ℕ) (s : Spot) (tells : Bool) (word : SpotDownWord) → IsIdle s (spot_after z s (Answers tells word))
answers_idle z s tells word = record { here = refl; bytes = refl; dirty = refl; asked = refl; absent = refl; file = refl; control = refl }

sent_down_idle : (z : List ℕ) (s : Spot) (o p : ℕ) (own tells : Bool) (object : ℕ) (m : Message)
    → IsIdle s (spot_after z s (effect_sent_down o p own tells object m))
sent_down_idle z s o p own tells object (message.Supply page lock precious bytes) =
    idle_if z s (own && (object == o && page.0 == p)) (Answers tells (Supplying bytes)) Nothing (answers_idle z s tells (Supplying bytes)) (nothing_idle z s)
sent_down_idle z s o p own tells object (message.Unavailable page) =
    idle_if z s (own && (object == o && page.0 == p)) (Answers tells Unavailing) Nothing (answers_idle z s tells Unavailing) (nothing_idle z s)
sent_down_idle z s o p own tells object (message.Error page reason) =
    idle_if z s (own && (object == o && page.0 == p)) (Answers tells Erring) Nothing (answers_idle z s tells Erring) (nothing_idle z s)
sent_down_idle z s o p own tells object m = nothing_idle z s

-- locks and unlocks are no matter of the place

unlocks : (size : ℕ) (file : Bool) (last : ℕ) (live : Option ℕ) (s : Spot) (page : Local) → SpotIsLocal file last live s page
    → SpotIsLocal file last live s (local_after size L.Unlocks page)
unlocks size file last live s page i =
    record { here = i.here; bytes = i.bytes; dirty = i.dirty; asked = i.asked; absent = i.absent; file = i.file; control = i.control }

locks : (size : ℕ) (file : Bool) (last : ℕ) (live : Option ℕ) (s : Spot) (page : Local) (lock : ℕ) (flush : Bool) → SpotIsLocal file last live s page
    → SpotIsLocal file last live s (local_after size (L.TakesLock lock flush) page)
locks size file last live s page lock flush i = by_here page.here
  where
    by_here : (b : Bool) → SpotIsLocal file last live s (if b then record page { lock = if flush || lock == 8 then page.lock else lock; unlocking = false } else
        page)
    by_here true = record { here = i.here; bytes = i.bytes; dirty = i.dirty; asked = i.asked; absent = i.absent; file = i.file; control = i.control }
    by_here false = i

-- one event

placed : (z : List ℕ) (size : ℕ) (file : Bool) (last : ℕ) (live : Option ℕ) (s : Spot) (page : Local) (own b : Bool) (e : SpotEffect) (f : L.LocalEffect)
    → (own ≡ true → SpotIsLocal file last live (spot_after z s e) (local_after size f page)) → SpotIsLocal file last live s page
    → SpotIsLocal file last live (spot_after z s (if own && b then e else Nothing)) (local_after size (if own && b then f else Elsewhere) page)
placed z size file last live s page true true e f at i = at refl
placed z size file last live s page true false e f at i = i
placed z size file last live s page false b e f at i = i

-- a page of the lower of two objects that are merged comes up
comes_up : (z : List ℕ) (size : ℕ) (file : Bool) (last : ℕ) (live : Option ℕ) (s t : Spot) (page low : Local) (a b : Bool) → t.here ≡ low.here
    → t.bytes ≡ low.bytes → t.dirty ≡ low.dirty → SpotIsLocal file last live s page
    → SpotIsLocal file last live (spot_after z s (if a && (b && (t.here && not s.here)) then Moves t.bytes t.dirty else Nothing))
    (local_after size (if a && (b && (low.here && not page.here)) then L.Moves low else Elsewhere) page)
comes_up z size file last live s t page low a b here bytes dirty i =
    subst (λ (m : Bool). SpotIsLocal file last live (spot_after z s (if a && (b && m) then Moves t.bytes t.dirty else Nothing))
    (local_after size (if a && (b && (low.here && not page.here)) then L.Moves low else Elsewhere) page)) (sym test)
    (by (a && (b && (low.here && not page.here))) refl)
  where
    test : (t.here && not s.here) ≡ (low.here && not page.here)
    test = ap (λ (x : Bool). x && not s.here) here ∙ ap (λ (x : Bool). low.here && not x) i.here

    there : (a b c d : Bool) → (a && (b && (c && d))) ≡ true → true ≡ c
    there a b c d is = grind arith

    by : (m : Bool) → (a && (b && (low.here && not page.here))) ≡ m
        → SpotIsLocal file last live (spot_after z s (if m then Moves t.bytes t.dirty else Nothing))
        (local_after size (if m then L.Moves low else Elsewhere) page)
    by false is = i
    by true is =
        record {
          here = there a b low.here (not page.here) is;
          bytes = bytes;
          dirty = dirty;
          asked = i.asked;
          absent = i.absent;
          file = i.file;
          control = i.control;
        }

merges : (z : List ℕ) (size : ℕ) (file : Bool) (last : ℕ) (live : Option ℕ) (s t : Spot) (page low : Local) (own c d a b : Bool) → t.here ≡ low.here
    → t.bytes ≡ low.bytes → t.dirty ≡ low.dirty → SpotIsLocal file last live s page
    → SpotIsLocal file last live (spot_after z s (if own then (if c
    then (if a && (b && (t.here && not s.here)) then Moves t.bytes t.dirty else Nothing) else (if d then Drops else Nothing)) else Nothing))
    (local_after size (if own then (if c
    then (if a && (b && (low.here && not page.here)) then L.Moves low else Elsewhere) else (if d then L.Drops else Elsewhere)) else Elsewhere) page)
merges z size file last live s t page low false c d a b here bytes dirty i = i
merges z size file last live s t page low true true d a b here bytes dirty i = comes_up z size file last live s t page low a b here bytes dirty i
merges z size file last live s t page low true false true a b here bytes dirty i = drops z size file last live s page i
merges z size file last live s t page low true false false a b here bytes dirty i = i

-- a message is about an object, then about a page of it
sorted : (z : List ℕ) (size : ℕ) (file : Bool) (last : ℕ) (live : Option ℕ) (s : Spot) (page : Local) (own c d : Bool) (e : SpotEffect) (f : L.LocalEffect)
    → SpotIsLocal file last live (spot_after z s e) (local_after size f page) → SpotIsLocal file last live s page
    → SpotIsLocal file last live (spot_after z s (if own && (c && d) then e else Nothing))
    (local_after size (if own && c then (if d then f else Elsewhere) else Elsewhere) page)
sorted z size file last live s page true true true e f at i = at
sorted z size file last live s page true true false e f at i = i
sorted z size file last live s page true false d e f at i = i
sorted z size file last live s page false c d e f at i = i

elsewhere : (size : ℕ) (file : Bool) (last : ℕ) (live : Option ℕ) (s : Spot) (page : Local) (b : Bool) (f : L.LocalEffect)
    → SpotIsLocal file last live s (local_after size f page) → SpotIsLocal file last live s page
    → SpotIsLocal file last live s (local_after size (if b then f else Elsewhere) page)
elsewhere size file last live s page true f at i = at
elsewhere size file last live s page false f at i = i

begins : (z : List ℕ) (size : ℕ) (file : Bool) (last : ℕ) (live : Option ℕ) (s : Spot) (page : Local) (control : ℕ) (b : Bool)
    → SpotIsLocal file last live s page
    → SpotIsLocal file (if b then control else last) (if b then Some control else live) (spot_after z s (if b then Creates else Nothing))
    (local_after size (if b then L.Begins else Elsewhere) page)
begins z size file last live s page control true i = creates z size file last control live s page i
begins z size file last live s page control false i = i

without_is : (control : ℕ) (live : Option ℕ) → is_control control live ≡ true → without_control control live ≡ None
without_is control None is = refl
without_is control (Some k) is = ap (λ (b : Bool). if b then None else Some k) is

without_isnt : (control : ℕ) (live : Option ℕ) → is_control control live ≡ false → without_control control live ≡ live
without_isnt control None isnt = refl
without_isnt control (Some k) isnt = ap (λ (b : Bool). if b then None else Some k) isnt

ends_if : (z : List ℕ) (size : ℕ) (file : Bool) (last : ℕ) (live : Option ℕ) (s : Spot) (page : Local) (control : ℕ) (k : Bool) → is_control control live ≡ k
    → SpotIsLocal file last live s page
    → SpotIsLocal file last (without_control control live) (spot_after z s (if k && true then Ends else Nothing))
    (local_after size (if is_control control live then L.Ends else Elsewhere) page)
ends_if z size file last live s page control true is i = rw (without_is control live is, is) (ends z size file last live s page i)
ends_if z size file last live s page control false is i = rw (without_isnt control live is, is) i

terminates : (z : List ℕ) (size : ℕ) (file : Bool) (last : ℕ) (live : Option ℕ) (s : Spot) (page : Local) (control : ℕ) (own c k : Bool)
    → (c ≡ true → is_control control live ≡ k) → SpotIsLocal file last live s page
    → SpotIsLocal file last (if own && c then without_control control live else live) (spot_after z s (if (own && k) && c then Ends else Nothing))
    (local_after size (if own && c then (if is_control control live then L.Ends else Elsewhere) else Elsewhere) page)
terminates z size file last live s page control true true k is i = ends_if z size file last live s page control k (is refl) i
terminates z size file last live s page control true false true is i = i
terminates z size file last live s page control true false false is i = i
terminates z size file last live s page control false c k is i = i

request : (z : List ℕ) (size : ℕ) (file : Bool) (last : ℕ) (live : Option ℕ) (s : Spot) (page : Local) (own c d k k' : Bool) → (c ≡ true → k' ≡ k)
    → SpotIsLocal file last live s page
    → SpotIsLocal file last live (spot_after z s (if own && (c && d) then Requests k else Nothing))
    (local_after size (if own && c then (if d && k' then L.Asks else Elsewhere) else Elsewhere) page)
request z size file last live s page true true true k k' is i = rw (is refl) (requests z size file last live s page k i)
request z size file last live s page true true false k k' is i = i
request z size file last live s page true false d k k' is i = i
request z size file last live s page false c d k k' is i = i

sent : (z : List ℕ) (size host o p : ℕ) (file : Bool) (last : ℕ) (s : Spot) (page : Local) (at : HostId) (object : ObjectId) (m : Message) (past : List Event)
    → SpotIsLocal file last (live_control host o past) s page
    → SpotIsLocal file (control_after host o (event.Sent (Up at object) m) last) (live_after host o (event.Sent (Up at object) m) (live_control host o past))
    (spot_after z s (effect_sent_up o p (at.0 == host) (live_control host object.0 past) object.0 m))
    (local_after size (if at.0 == host && object.0 == o then L.sent_effect p (live_control host o past) m else Elsewhere) page)
sent z size host o p file last s page at object (message.Init number bytes) past i =
    begins z size file last (live_control host o past) s page number (at.0 == host && object.0 == o) i
sent z size host o p file last s page at object (message.Create number bytes) past i =
    begins z size file last (live_control host o past) s page number (at.0 == host && object.0 == o) i
sent z size host o p file last s page at object (message.Terminate number) past i =
    terminates z size file last (live_control host o past) s page number (at.0 == host) (object.0 == o) (is_control number (live_control host object.0 past))
    (λ its. same_control host object.0 o number past its) i
sent z size host o p file last s page at object (message.Request number index access) past i =
    request z size file last (live_control host o past) s page (at.0 == host) (object.0 == o) (index.0 == p)
    (is_control number (live_control host object.0 past)) (is_control number (live_control host o past))
    (λ its. same_control host object.0 o number past its) i
sent z size host o p file last s page at object (message.Return number index dirty keep bytes) past i =
    sorted z size file last (live_control host o past) s page (at.0 == host) (object.0 == o) (index.0 == p) (Returns keep bytes) (L.Returns keep)
    (returns z size file last (live_control host o past) s page keep bytes i) i
sent z size host o p file last s page at object (message.Unlock number index access) past i =
    elsewhere size file last (live_control host o past) s page (at.0 == host && object.0 == o) (if index.0 == p then L.Unlocks else Elsewhere)
    (elsewhere size file last (live_control host o past) s page (index.0 == p) L.Unlocks (unlocks size file last (live_control host o past) s page i) i) i
sent z size host o p file last s page at object m past i =
    elsewhere size file last (live_control host o past) s page (at.0 == host && object.0 == o) Elsewhere i i

-- what the newest control takes

heard : (z : List ℕ) (size : ℕ) (file : Bool) (last : ℕ) (live : Option ℕ) (s : Spot) (page : Local) (own n c d k b : Bool) (w : SpotDownWord)
    (f : L.LocalEffect) → (c ≡ true → k ≡ (b && n)) → SpotIsLocal file last live (spot_after z s (Takes w)) (if b then local_after size f page else page)
    → SpotIsLocal file last live s page
    → SpotIsLocal file last live (spot_after z s (if (own && n) && (c && d) then Takes w else StepEnds))
    (local_after size (if own && (c && k) then (if d then f else Elsewhere) else Elsewhere) page)
heard z size file last live s page false n c d k b w f is at i = idle file last live s _ page (step_idle z s) i
heard z size file last live s page true false false d k b w f is at i = idle file last live s _ page (step_idle z s) i
heard z size file last live s page true false true d false b w f is at i = idle file last live s _ page (step_idle z s) i
heard z size file last live s page true false true d true b w f is at i = never (sym (and_false b) ∙ sym (is refl))
heard z size file last live s page true true false d k b w f is at i = idle file last live s _ page (step_idle z s) i
heard z size file last live s page true true true false true b w f is at i = idle file last live s _ page (step_idle z s) i
heard z size file last live s page true true true false false b w f is at i = idle file last live s _ page (step_idle z s) i
heard z size file last live s page true true true true true true w f is at i = at
heard z size file last live s page true true true true false false w f is at i = at
heard z size file last live s page true true true true true false w f is at i = never (sym (is refl))
heard z size file last live s page true true true true false true w f is at i = never (is refl)

flip : (a b : ℕ) → (a == b) ≡ (b == a)
flip a b = elim (ℕ_discrete a b) [ yes e ↦ eq_yes a b e ∙ sym (eq_yes b a (sym e)) | no apart ↦ eq_no a b apart ∙ sym (eq_no b a (λ e. apart (sym e))) ]

-- the control that takes is the live one where it is the newest and lives
pub is_live : (last : ℕ) (live : Option ℕ) (s : Spot) (number : ℕ) → (if s.control == 1 then Some last else None) ≡ live
    → is_control number live ≡ (s.control == 1 && number == last)
is_live last live s number is = ap (is_control number) (sym is) ∙ by_live (s.control == 1)
  where
    by_live : (b : Bool) → is_control number (if b then Some last else None) ≡ (b && number == last)
    by_live true = flip last number
    by_live false = refl

took : (z : List ℕ) (size host o p : ℕ) (file : Bool) (live : Option ℕ) (s : Spot) (page : Local) (at : HostId) (object : ObjectId) (number : ℕ) (m : Message)
    (past : List Event) → SpotIsLocal file (last_control host o past) live s page
    → SpotIsLocal file (last_control host o past) live (spot_after z s (effect_taken_down o p (at.0 == host && number == last_control host object.0 past)
    object.0 m)) (local_after size (if at.0 == host && (object.0 == o && is_control number live) then taken_effect p m else Elsewhere) page)
took z size host o p file live s page at object number m past i = by_message m
  where
    lives : (object.0 == o) ≡ true → is_control number live ≡ (s.control == 1 && number == last_control host object.0 past)
    lives is =
        is_live (last_control host o past) live s number i.control
        ∙ ap (λ (k : ℕ). s.control == 1 && number == last_control host k past) (sym (number_is object.0 o is))

    by_message : (m : Message) → SpotIsLocal file (last_control host o past) live
        (spot_after z s (effect_taken_down o p (at.0 == host && number == last_control host object.0 past) object.0 m))
        (local_after size (if at.0 == host && (object.0 == o && is_control number live) then taken_effect p m else Elsewhere) page)
    by_message (message.Supply index lock precious bytes) =
        heard z size file (last_control host o past) live s page (at.0 == host) (number == last_control host object.0 past) (object.0 == o) (index.0 == p)
        (is_control number live) (s.control == 1) (Supplying bytes) (L.TakesPage lock precious bytes) lives
        (supplied z size file (last_control host o past) live s page lock precious bytes (s.control == 1) s.asked page.asked refl refl refl i) i
    by_message (message.Unavailable index) =
        heard z size file (last_control host o past) live s page (at.0 == host) (number == last_control host object.0 past) (object.0 == o) (index.0 == p)
        (is_control number live) (s.control == 1) Unavailing L.TakesNothing lives
        (lacks z size file (last_control host o past) live s page (s.control == 1) s.asked page.asked refl refl refl i) i
    by_message (message.Error index reason) =
        heard z size file (last_control host o past) live s page (at.0 == host) (number == last_control host object.0 past) (object.0 == o) (index.0 == p)
        (is_control number live) (s.control == 1) Erring L.TakesError lives
        (errs z size file (last_control host o past) live s page (s.control == 1) s.asked page.asked refl refl refl i) i
    by_message (message.Lock index count kind flush lock reply) =
        idle file (last_control host o past) live s _ _ (step_idle z s)
        (elsewhere size file (last_control host o past) live s page (at.0 == host && (object.0 == o && is_control number live))
        (if in_range p index.0 count then L.TakesLock lock flush else Elsewhere)
        (elsewhere size file (last_control host o past) live s page (in_range p index.0 count) (L.TakesLock lock flush)
        (locks size file (last_control host o past) live s page lock flush i) i) i)
    by_message other =
        idle file (last_control host o past) live s _ _ (step_idle z s) (elsewhere size file (last_control host o past) live s page
        (at.0 == host && (object.0 == o && is_control number live)) Elsewhere i i)

-- a place is what its host has of the page, at every moment
pub spot_is_local : (header : Header) (outside : Outside) (past : List Event) (host o p : ℕ)
    → SpotIsLocal (is_file header o) (last_control host o past) (live_control host o past) (spot header outside host o p past)
    (local header host (record { object = o; page = p }) past)
spot_is_local header outside [] host o p =
    record { here = refl; bytes = refl; dirty = refl; asked = refl; absent = sym (and_false (not (is_file header o))); file = refl; control = refl }
spot_is_local header outside (event.Line line ∷ past) host o p =
    idle _ _ _ (spot header outside host o p past) _ _ (step_idle (zeros header) (spot header outside host o p past))
    (spot_is_local header outside past host o p)
spot_is_local header outside (event.Zeroed at object page ∷ past) host o p =
    let i : SpotIsLocal (is_file header o) (last_control host o past) (live_control host o past) (spot header outside host o p past)
    (local header host (record { object = o; page = p }) past) = spot_is_local header outside past host o p in
    placed (zeros header) header.size _ _ _ _ _ (at.0 == host) (object.0 == o && page.0 == p) Zeroes L.Zeroes
    (λ mine. zeroes (zeros header) header.size _ _ _ _ _ refl i) i
spot_is_local header outside (event.Dropped at object page ∷ past) host o p =
    let i : SpotIsLocal (is_file header o) (last_control host o past) (live_control host o past) (spot header outside host o p past)
    (local header host (record { object = o; page = p }) past) = spot_is_local header outside past host o p in
    placed (zeros header) header.size _ _ _ _ _ (at.0 == host) (object.0 == o && page.0 == p) Drops L.Drops
    (λ mine. drops (zeros header) header.size _ _ _ _ _ i) i
spot_is_local header outside (event.Stored task object page at size value ∷ past) host o p =
    let i : SpotIsLocal (is_file header o) (last_control host o past) (live_control host o past) (spot header outside host o p past)
    (local header host (record { object = o; page = p }) past) = spot_is_local header outside past host o p in
    placed (zeros header) header.size _ _ _ _ _ (lives_on host task.0 past) (object.0 == o && page.0 == p) (Stores at (little_endian_bytes size value))
    (L.Stores at (little_endian_bytes size value)) (λ mine. stores (zeros header) header.size _ _ _ _ _ at (little_endian_bytes size value) i) i
spot_is_local header outside (event.Raised at lower lower_page upper upper_page ∷ past) host o p =
    let i : SpotIsLocal (is_file header o) (last_control host o past) (live_control host o past) (spot header outside host o p past)
    (local header host (record { object = o; page = p }) past) = spot_is_local header outside past host o p in
    placed (zeros header) header.size _ _ _ _ _ (at.0 == host) (upper.0 == o && upper_page.0 == p)
    (Raises (spot header outside host lower.0 lower_page.0 past).bytes) (L.Raises
    (local header host (record { object = lower.0; page = lower_page.0 }) past).bytes)
    (λ mine. raises (zeros header) header.size _ _ _ _ _ _ _ (spot_is_local header outside past host lower.0 lower_page.0).bytes i) i
spot_is_local header outside (event.CopiedPage task page object object_page target ∷ past) host o p =
    let i : SpotIsLocal (is_file header o) (last_control host o past) (live_control host o past) (spot header outside host o p past)
    (local header host (record { object = o; page = p }) past) = spot_is_local header outside past host o p in
    placed (zeros header) header.size _ _ _ _ _ (lives_on host task.0 past) (target.0 == o && page.0 == p)
    (Raises (spot header outside host object.0 object_page.0 past).bytes) (L.Raises
    (local header host (record { object = object.0; page = object_page.0 }) past).bytes)
    (λ mine. raises (zeros header) header.size _ _ _ _ _ _ _ (spot_is_local header outside past host object.0 object_page.0).bytes i) i
spot_is_local header outside (event.Merged upper lower ∷ past) host o p =
    let q : ℕ = (backing_of header upper.0 past).shift + p in
    let below : SpotIsLocal (is_file header lower.0) (last_control host lower.0 past) (live_control host lower.0 past)
    (spot header outside host lower.0 q past) (local header host (record { object = lower.0; page = q }) past) =
    spot_is_local header outside past host lower.0 q
    in merges (zeros header) header.size _ _ _ (spot header outside host o p past) (spot header outside host lower.0 q past)
    (local header host (record { object = o; page = p }) past) (local header host (record { object = lower.0; page = q }) past)
    (is_on host (object_home upper.0 past)) (o == upper.0) (o == lower.0 && nat_lt p (object_pages header lower.0 past))
    (nat_lt p (object_pages header upper.0 past)) (nat_lt q (object_pages header lower.0 past)) below.here below.bytes below.dirty
    (spot_is_local header outside past host o p)
spot_is_local header outside (event.Sent (Up at object) m ∷ past) host o p =
    sent (zeros header) header.size host o p (is_file header o) (last_control host o past) (spot header outside host o p past)
    (local header host (record { object = o; page = p }) past) at object m past (spot_is_local header outside past host o p)
spot_is_local header outside (event.Sent (Down at object number) m ∷ past) host o p =
    idle _ _ _ (spot header outside host o p past) _ _ (sent_down_idle (zeros header) (spot header outside host o p past) o p
    (at.0 == host && number == last_control host object.0 past) (is_said header outside object.0) object.0 m) (spot_is_local header outside past host o p)
spot_is_local header outside (event.Taken (Up at object) m ∷ past) host o p =
    idle _ _ _ (spot header outside host o p past) _ _ (taken_up_idle (zeros header) (spot header outside host o p past) o p (at.0 == host) object.0 m)
    (spot_is_local header outside past host o p)
spot_is_local header outside (event.Taken (Down at object number) m ∷ past) host o p =
    took (zeros header) header.size host o p (is_file header o) (live_control host o past) (spot header outside host o p past)
    (local header host (record { object = o; page = p }) past) at object number m past (spot_is_local header outside past host o p)
spot_is_local header outside (e ∷ past) host o p = spot_is_local header outside past host o p

-- what causes say

sent_founded : (header : Header) (doing : Command) (at : HostId) (object : ObjectId) (m : Message) (past : List Event)
    → MaySendUp header doing at.0 object.0 m past → IsFounded header (event.Sent (Up at object) m) past
sent_founded header doing at object (message.Request number page access) past c = c.live
sent_founded header doing at object (message.Terminate number) past c = c.live
sent_founded header doing at object m past c = tt

event_founded : (header : Header) (outside : Outside) (doing : Command) (e : Event) (past : List Event) → Caused header outside doing e past
    → IsFounded header e past
event_founded header outside doing (event.Raised at lower lower_page upper upper_page) past (licence.Finding c) = c.here
event_founded header outside doing (event.Raised at lower lower_page upper upper_page) past (licence.Pushing c) = c.here
event_founded header outside doing (event.CopiedPage task page object object_page target) past c = (c.waits.at.host, c.waits.at.lives, c.here)
event_founded header outside doing (event.Stored task object page at bytes value) past c = (c.waits.at.host, c.waits.at.lives)
event_founded header outside doing (event.Sent (Up at object) m) past c = sent_founded header doing at object m past c
event_founded header outside doing (event.Sent (Down at object number) m) past c = tt
event_founded header outside doing e past c = tt

pub each_founded : (header : Header) (outside : Outside) (past : List Event) → EachEvent (HasCause header outside) past → EachEvent (IsFounded header) past
each_founded header outside [] caused = tt
each_founded header outside (e ∷ past) caused = (event_founded header outside caused.0.0 e past caused.0.1, each_founded header outside past caused.1)

-- of a private object a page is known absent where the host knows that
pub known_absent : (header : Header) (outside : Outside) (past : List Event) (host o p : ℕ) (from : Option ℕ)
    → is_private_from header outside o from ≡ true
    → (spot header outside host o p past).absent ≡ is_known_absent header (record { object = o; page = p })
    (local header host (record { object = o; page = p }) past)
known_absent header outside past host o p from ours =
    (spot_is_local header outside past host o p).absent
    ∙ ap (λ (b : Bool). b && (local header host (record { object = o; page = p }) past).absent)
    (by_kind (nat_lt o (named header)) (is_file_kept (declared header o)) (outside.paging && is_from_told header outside from) ours)
  where
    by_kind : (below kept paging : Bool) → ((not below && paging) || (below && kept)) ≡ true → not (below && kept) ≡ not below
    by_kind true true paging is = refl
    by_kind true false paging is = never is
    by_kind false kept paging is = refl
