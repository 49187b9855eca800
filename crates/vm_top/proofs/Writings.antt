-- What is written grows with the events.
use Rattle.std.proofs.Common.{◌≡◌, ℕ, ◌+◌, ◌-◌, List, [], ◌∷◌, ◌++◌, length, drop, take, refl, ap, sym, ◌∙◌, append_assoc}
use Rattle.std.proofs.Common.{append-nil, arith, Some, None, Option}
use Rattle.std.proofs.Math.Seq.{drop-append_seam, take-append-add, take-append_seam}
use Rattle.std.proofs.Common.{length-append}
use Rattle.std.proofs.KnownBytes.{Appends-trans}
use Rattle.std.specs.Io.KnownBytes.{Appends, Keeps}
use Rattle.std.specs.Prelude.{Result, Ok, Err, OnOk, IsErrOf}
use Rattle.vm_base.specs.declared.failure.WriteStop.{WriteStop}
use Rattle.vm_base.specs.declared.failure.WriteStop.TheVariants as stop
use Rattle.vm_outside.specs.Causes.{WriteEffects}
use Rattle.vm_model.specs.declared.event.Event.{Event}
use Rattle.vm_model.specs.Text.{text, line_of}
use Rattle.vm_top.specs.Writing.{oldest_items, WroteBeyond, WroteStart}

pub oldest_before : {A : Type 0} (h more old : List A) (from : ℕ) → from ≡ length old → h ≡ more ++ old → oldest_items from h ≡ old
oldest_before h more old from is_length grown =
    let cut : length h - from ≡ length more = omega (arith, ap length grown, length-append more old) in
    ap (λ z. drop z h) cut ∙ ap (λ z. drop (length more) z) grown ∙ drop-append_seam more old

-- a first part of what is added is a first part of the whole
pub beyond_of : (start old new : Option (List ℕ)) (front piece whole : List ℕ) (n : ℕ) → front ++ piece ≡ whole
    → Appends start old front → Appends old new (take n piece) → WroteBeyond start new front whole
beyond_of start old new front piece whole n is one two =
    (length front + n, omega arith, rw (← is, take-append-add front piece n) (Appends-trans start old new front (take n piece) one two))

-- one event's line more
pub grown_more : (h : List Event) (i : ℕ) (e : Event) (front begun : List ℕ) → oldest_items (i + 1) h ≡ e ∷ oldest_items i h
    → front ++ begun ≡ text (oldest_items i h)
    → front ++ (begun ++ line_of e) ≡ text (oldest_items (i + 1) h)
grown_more h i e front begun step is =
    sym (append_assoc front begun (line_of e)) ∙ (ap (λ z. z ++ line_of e) is ∙ sym (ap text step))

keeps_more : (start old new : Option (List ℕ)) (bytes : List ℕ) → Appends start old bytes → Keeps old new → Appends start new bytes
keeps_more None old new bytes one two = tt
keeps_more (Some s) None new bytes one two = absurd one
keeps_more (Some s) (Some o) None bytes one two = absurd two
keeps_more (Some s) (Some o) (Some n) bytes one two = two ∙ one

-- what a write of the last piece leaves
pub whole_of : (start old new : Option (List ℕ)) (front piece whole : List ℕ) (result : Result (Unit {0}) WriteStop) → front ++ piece ≡ whole
    → Appends start old front → WriteEffects old new result piece → OnOk result (Appends start new whole)
whole_of start old new front piece whole (Ok done) is one two = rw (← is) (Appends-trans start old new front piece one two)
whole_of start old new front piece whole (Err why) is one two = tt

pub failed_of : (start old new : Option (List ℕ)) (front piece whole : List ℕ) (result : Result (Unit {0}) WriteStop) → front ++ piece ≡ whole
    → Appends start old front → WriteEffects old new result piece → IsErrOf result stop.Failed → WroteBeyond start new front whole
failed_of start old new front piece whole (Ok done) is one two failed = absurd (cc)
failed_of start old new front piece whole (Err stop.Failed) is one two failed = beyond_of start old new front piece whole two.0 is one two.1
failed_of start old new front piece whole (Err stop.NoMemory) is one two failed = absurd (cc)

pub kept_of : (start old new : Option (List ℕ)) (front piece : List ℕ) (result : Result (Unit {0}) WriteStop)
    → Appends start old front → WriteEffects old new result piece → IsErrOf result stop.NoMemory → Appends start new front
kept_of start old new front piece (Ok done) one two none = absurd (cc)
kept_of start old new front piece (Err stop.Failed) one two none = absurd (cc)
kept_of start old new front piece (Err stop.NoMemory) one two none = keeps_more start old new front one two

take_whole : (xs : List ℕ) → take (length xs) xs ≡ xs
take_whole [] = refl
take_whole (x ∷ xs) = ap (λ z. x ∷ z) (take_whole xs)

pub start_all : (before after : Option (List ℕ)) (text : List ℕ) → Appends before after text → WroteStart before after text
start_all before after text wrote = (length text, rw (take_whole text) wrote)

-- nothing is a first part of everything
pub start_none : (before after : Option (List ℕ)) (text : List ℕ) → Keeps before after → WroteStart before after text
start_none before after text kept = (0, keeps_nothing before after kept)
  where
    keeps_nothing : (before after : Option (List ℕ)) → Keeps before after → Appends before after []
    keeps_nothing None after kept = tt
    keeps_nothing (Some b) None kept = absurd kept
    keeps_nothing (Some b) (Some a) kept = kept ∙ sym (append-nil b)

-- whatever a write answers, a first part of its piece was written
pub start_of_write : (before after : Option (List ℕ)) (piece text : List ℕ) (result : Result (Unit {0}) WriteStop) → piece ≡ text
    → WriteEffects before after result piece → WroteStart before after text
start_of_write before after piece text (Ok done) same wrote = start_all before after text (rw (← same) wrote)
start_of_write before after piece text (Err stop.Failed) same wrote = rw (← same) wrote
start_of_write before after piece text (Err stop.NoMemory) same wrote = start_none before after text wrote

-- a front of the text, and all of it
pub front_start : (before after : Option (List ℕ)) (front more : List ℕ) → Appends before after front → WroteStart before after (front ++ more)
front_start before after front more wrote = (length front, rw (take-append_seam front more) wrote)
