-- What a host knows of its pages where an object is merged into the shadow over it: its rows say it still.
use Rattle.std.proofs.Common.{◌≡◌, ◌∙◌, ℕ, ◌+◌, ◌<◌, ◌≤◌, ◌==◌, ◌&&◌, Bool, true, false, List, ◌∷◌, [], Option, Some, None, ap, arith, refl, sym, subst}
use Rattle.std.proofs.lemmas.Bool.Decides.{nat_tests}
use Rattle.std.specs.Prelude.{if◌then◌else◌, nat_lt, not}
use Rattle.vm_abroad.proofs.Home.{on_own}
use Rattle.vm_abroad.specs.Home.{HaveHomes}
use Rattle.vm_base.specs.declared.ids.ObjectId.{ObjectId}
use Rattle.vm_copies.specs.Copies.{CopyTable}
use Rattle.vm_frames.specs.Frames.{FrameTable}
use Rattle.vm_model.specs.declared.event.Event.{Event}
use Rattle.vm_model.specs.declared.event.Event.TheVariants as event
use Rattle.vm_model.specs.declared.script.Header.{Header}
use Rattle.vm_model.specs.Homes.{object_home}
use Rattle.vm_model.specs.Local.{Drops, Elsewhere, Local, LocalEffect, Moves, Place, away, effect, is_on, local, local_after, local_without_page, merge_effect}
use Rattle.vm_model.specs.Named.{named}
use Rattle.vm_model.specs.Regions.{Backing, backing_of, object_pages as pages_made, region_of}
use Rattle.vm_objects.specs.Objects.{ObjectTable, SameMarks, absent_at, object_at}
use Rattle.vm_objects.specs.declared.row.ObjectRow.{ObjectRow}
use Rattle.vm_objects.specs.declared.row.PagerState.{PagerState}
use Rattle.vm_objects.specs.declared.row.PagerState.TheVariants as state
use Rattle.vm_parts.specs.Fits.{object_pages, pages_of_row}
use Rattle.vm_resident.specs.Resident.{ResidentTable, row_at}
use Rattle.vm_resident.specs.declared.page_row.PageRow.{PageRow}
use Rattle.vm_shadow.specs.Chains.{ChainTable}
use Rattle.vm_shadow.specs.declared.ids.Ids.{Ids}
use Rattle.vm_state.proofs.Declared.{shadow_temporary}
use Rattle.vm_state.proofs.Fresh.{other_test, same_test}
use Rattle.vm_state.proofs.Merging.{lower_quiet, lower_temporary, merged_apart, upper_quiet}
use Rattle.vm_state.proofs.Moving.{IsBeyond, IsGone, IsMoved, IsOwn, IsSame, RowNow, row_now}
use Rattle.vm_state.specs.Merging.{CanMerge, KeepsBytes, MergesObjects, MergesRows}
use Rattle.vm_state.specs.Pagers.{has_pager, is_ready_state, ready_in}
use Rattle.vm_state.specs.Places.{known_local, local_of_row, place_of}
use Rattle.vm_state.specs.References.{AllReferred}
use Rattle.vm_state.specs.Stands.{HasKinds, HasPages, HasRegions, KnowsPages}

-- whose pager isn't told has none that is ready
untold_unready : (s : PagerState) → has_pager s ≡ false → is_ready_state s ≡ false
untold_unready state.Without told = refl
untold_unready state.Sent told = refl
untold_unready state.Ready told = told

-- its pages that have rows are here
pub here_untold : (rs : ResidentTable) (os : ObjectTable) (o : ℕ) (known : ObjectRow) → object_at os o ≡ Some known → has_pager known.state ≡ false
    → ((o p : ℕ) (row : PageRow) → row_at rs o p ≡ Some row → row.here ≡ false → ready_in (object_at os o) ≡ true) → (p : ℕ) (row : PageRow)
    → row_at rs o p ≡ Some row → row.here ≡ true
here_untold rs os o known is untold ready p row found = by row.here refl
  where
    by : (b : Bool) → row.here ≡ b → b ≡ true
    by true here = refl
    by false gone =
        let none : ready_in (object_at os o) ≡ false = ap ready_in is ∙ untold_unready known.state untold in
        absurd (let bad : true ≡ false = sym (ready o p row found gone) ∙ none in cc)

-- of two objects that can be merged no page is asked
pub record AreHere (rs : ResidentTable) (upper lower : ℕ) : Type 0 where
  pub above : (p : ℕ) (row : PageRow) → row_at rs upper p ≡ Some row → row.here ≡ true
  pub below : (p : ℕ) (row : PageRow) → row_at rs lower p ≡ Some row → row.here ≡ true

pub all_here : {copies : CopyTable} {header : Header} {cs : ChainTable} {os : ObjectTable} {rs : ResidentTable} {upper lower : ℕ} → HasKinds header os cs
    → named header ≤ upper
    → AllReferred cs os rs
    → ((o p : ℕ) (row : PageRow) → row_at rs o p ≡ Some row → row.here ≡ false → ready_in (object_at os o) ≡ true) → CanMerge copies cs os upper lower
    → AreHere rs upper lower
all_here {os = os} {rs = rs} {upper = upper} {lower = lower} kinds least all ready can =
    record {
      above =
          here_untold rs os upper can.upper_row can.upper_known (upper_quiet kinds least (all.shadows upper can.link can.over) can) ready;
      below = here_untold rs os lower can.lower_row can.lower_known (lower_quiet kinds can) ready;
    }

-- what a host has of each place
abbrev pub places : Header → ℕ → List Event → Place → Local
places header h past = λ place. local header h place past

-- the lower's page comes to the upper's place
abbrev pub moves_to : (Place → Local) → ℕ → ℕ → ℕ → ℕ → ℕ → ℕ → Bool
moves_to others upper lower shift up low p =
    nat_lt p up && (nat_lt (shift + p) low && ((others (place_of lower (shift + p))).here && not (others (place_of upper p)).here))

-- what a merge is to a place of the upper
pub effect_upper : (upper lower shift up low p : ℕ) (others : Place → Local)
    → merge_effect upper lower shift up low (place_of upper p) others
    ≡ (if moves_to others upper lower shift up low p then Moves (others (place_of lower (shift + p))) else Elsewhere)
effect_upper upper lower shift up low p others =
    ap (λ b. if b
    then (if moves_to others upper lower shift up low p then Moves (others (place_of lower (shift + p))) else Elsewhere)
    else (if upper == lower && nat_lt p low then Drops else Elsewhere)) (same_test upper upper refl)

-- to one of the lower
effect_lower : (upper lower shift up low p : ℕ) (others : Place → Local) → (upper ≡ lower → ⊥)
    → merge_effect upper lower shift up low (place_of lower p) others ≡ (if nat_lt p low then Drops else Elsewhere)
effect_lower upper lower shift up low p others apart =
    ap (λ b. if b
    then (if nat_lt p up && (nat_lt (shift + p) low && ((others (place_of lower (shift + p))).here && not (others (place_of lower p)).here))
    then Moves (others (place_of lower (shift + p)))
    else Elsewhere)
    else (if lower == lower && nat_lt p low then Drops else Elsewhere)) (other_test lower upper (λ e. apart (sym e)))
    ∙ ap (λ b. if b && nat_lt p low then Drops else Elsewhere) (same_test lower lower refl)

-- and to one of another object
pub effect_else : (upper lower shift up low o p : ℕ) (others : Place → Local) → (upper ≡ o → ⊥) → (lower ≡ o → ⊥)
    → merge_effect upper lower shift up low (place_of o p) others ≡ Elsewhere
effect_else upper lower shift up low o p others above below =
    ap (λ b. if b
    then (if nat_lt p up && (nat_lt (shift + p) low && ((others (place_of lower (shift + p))).here && not (others (place_of o p)).here))
    then Moves (others (place_of lower (shift + p)))
    else Elsewhere)
    else (if o == lower && nat_lt p low then Drops else Elsewhere)) (other_test o upper (λ e. above (sym e)))
    ∙ ap (λ b. if b && nat_lt p low then Drops else Elsewhere) (other_test o lower (λ e. below (sym e)))

-- nothing moves to a page that is here, from one that isn't, or beyond the upper's pages
unmoved_here : (a b c here : Bool) → here ≡ true → (a && (b && (c && not here))) ≡ false
unmoved_here true true true here is = ap not is
unmoved_here true true false here is = refl
unmoved_here true false c here is = refl
unmoved_here false b c here is = refl

pub unmoved_away : (a b here c : Bool) → here ≡ false → (a && (b && (here && c))) ≡ false
unmoved_away true true here c is = ap (λ z. z && c) is
unmoved_away true false here c is = refl
unmoved_away false b here c is = refl

moved_all : (a b c here : Bool) → a ≡ true → b ≡ true → c ≡ true → here ≡ false → (a && (b && (c && not here))) ≡ true
moved_all a b c here first second third fourth =
    ap (λ z. z && (b && (c && not here))) first ∙ (ap (λ z. z && (c && not here)) second ∙ (ap (λ z. z && not here) third ∙ ap not fourth))

less_test : (n m : ℕ) → n < m → nat_lt n m ≡ true
less_test n m less = grind (arith, nat_tests)

beyond_test : (n m : ℕ) → m ≤ n → nat_lt n m ≡ false
beyond_test n m le = grind (arith, nat_tests)

beyond_of : (n m : ℕ) → nat_lt n m ≡ false → m ≤ n
beyond_of n m test = grind (arith, nat_tests)

-- the row of a page says what the host knows of it
abbrev Shows : Header → ℕ → List Event → FrameTable → ResidentTable → ObjectTable → ℕ → ℕ → Type 0
Shows header h past fs rs os o p =
    known_local header o p (local header h (place_of o p) past) ≡ local_of_row fs (row_at rs o p) (absent_at os o p)

-- an event is a merge to each place
abbrev pub IsMerge : Header → ℕ → Event → List Event → ℕ → ℕ → ℕ → ℕ → ℕ → Type 0
IsMerge header h e past upper lower shift up low =
    (o p : ℕ) → effect header h (place_of o p) (places header h past) e past
    ≡ merge_effect upper lower shift up low (place_of o p) (places header h past)

-- an event is a merge, and the tables have gone on with it
record MovesUp (header : Header) (h : ℕ) (e : Event) (past : List Event) (upper lower shift up low : ℕ) (os os2 : ObjectTable) (rs rs2 : ResidentTable)
    (fs fs2 : FrameTable) : Type 0 where
  pub is : IsMerge header h e past upper lower shift up low
  pub apart : upper ≡ lower → ⊥
  pub rows : MergesRows upper lower shift up rs rs2
  pub bytes : KeepsBytes rs2 fs fs2
  pub marks : SameMarks os os2
  pub here : AreHere rs upper lower
  pub inside : (p : ℕ) (row : PageRow) → row_at rs lower p ≡ Some row → p < low
  pub has : (o p : ℕ) → Shows header h past fs rs os o p

module _ {header : Header} {h : ℕ} {e : Event} {past : List Event} {upper lower shift up low : ℕ} {os os2 : ObjectTable} {rs rs2 : ResidentTable}
    {fs fs2 : FrameTable} (moves : MovesUp header h e past upper lower shift up low os os2 rs rs2 fs fs2) where
  -- what is known behind it, by its effect
  behind : (o p : ℕ) (f : LocalEffect) → merge_effect upper lower shift up low (place_of o p) (places header h past) ≡ f
      → known_local header o p (local header h (place_of o p) (e ∷ past))
      ≡ known_local header o p (local_after header.size f (local header h (place_of o p) past))
  behind o p f same = ap (λ z. known_local header o p (local_after header.size z (local header h (place_of o p) past))) (moves.is o p ∙ same)

  bytes_same : (o p : ℕ) (x : Option PageRow) (lacked : Bool) → row_at rs2 o p ≡ x → local_of_row fs x lacked ≡ local_of_row fs2 x lacked
  bytes_same o p None lacked found = refl
  bytes_same o p (Some row) lacked found =
      ap (λ (z : List ℕ). record (local_of_row fs (Some row) lacked) { bytes = if row.here then z else [] }) (sym (moves.bytes.at o p row found))

  -- with the bytes and marks of now
  now : (o p : ℕ) (x : Option PageRow) → row_at rs2 o p ≡ x
      → local_of_row fs x (absent_at os o p) ≡ local_of_row fs2 (row_at rs2 o p) (absent_at os2 o p)
  now o p x found =
      bytes_same o p x (absent_at os o p) found
      ∙ (ap (λ z. local_of_row fs2 x z) (sym (moves.marks.at o p)) ∙ ap (λ z. local_of_row fs2 z (absent_at os2 o p)) (sym found))

  -- a place that stays as it was
  stays : (o p : ℕ) → merge_effect upper lower shift up low (place_of o p) (places header h past) ≡ Elsewhere → row_at rs2 o p ≡ row_at rs o p
      → Shows header h (e ∷ past) fs2 rs2 os2 o p
  stays o p none same =
      behind o p Elsewhere none ∙ (moves.has o p ∙ (ap (λ z. local_of_row fs z (absent_at os o p)) (sym same) ∙ now o p (row_at rs2 o p) refl))

  unmoved : (p : ℕ) → moves_to (places header h past) upper lower shift up low p ≡ false → row_at rs2 upper p ≡ row_at rs upper p
      → Shows header h (e ∷ past) fs2 rs2 os2 upper p
  unmoved p test same =
      stays upper p (effect_upper upper lower shift up low p (places header h past)
      ∙ ap (λ b. if b then Moves (local header h (place_of lower (shift + p)) past) else Elsewhere) test) same

  here_is : (o p : ℕ) (row : PageRow) → row_at rs o p ≡ Some row → (local header h (place_of o p) past).here ≡ row.here
  here_is o p row found = ap (λ (z : Local). z.here) (moves.has o p ∙ ap (λ z. local_of_row fs z (absent_at os o p)) found)

  away_is : (o p : ℕ) → row_at rs o p ≡ None → known_local header o p (local header h (place_of o p) past) ≡ record away { absent = absent_at os o p }
  away_is o p none = moves.has o p ∙ ap (λ z. local_of_row fs z (absent_at os o p)) none

  gone_is : (o p : ℕ) → row_at rs o p ≡ None → (local header h (place_of o p) past).here ≡ false
  gone_is o p none = ap (λ (z : Local). z.here) (away_is o p none)

  -- what moves up is the lower's page, and the upper's marks stay
  moved_up : (p : ℕ) (row : PageRow) → row_at rs upper p ≡ None → row_at rs lower (shift + p) ≡ Some row
      → known_local header upper p (local_after header.size (Moves (local header h (place_of lower (shift + p)) past))
      (local header h (place_of upper p) past))
      ≡ local_of_row fs (Some row) (absent_at os upper p)
  moved_up p row none found =
      let q = shift + p in
      let own = known_local header upper p (local header h (place_of upper p) past) in
      let from : known_local header lower q (local header h (place_of lower q) past) ≡ local_of_row fs (Some row) (absent_at os lower q)
      = moves.has lower q ∙ ap (λ z. local_of_row fs z (absent_at os lower q)) found in
      ap (λ (z : Local). record z { asked = own.asked; absent = own.absent }) from
      ∙ (ap (λ (z : Local). record (local_of_row fs (Some row) (absent_at os lower q)) { asked = z.asked; absent = z.absent }) (away_is upper p none)
      ∙ ap (λ b. record (local_of_row fs (Some row) (absent_at os upper p)) { asked = not b }) (sym (moves.here.below q row found)))

  upper_shows : (p : ℕ) → row_at rs upper p ≡ None → p < up → row_at rs2 upper p ≡ row_at rs lower (shift + p) → (x : Option PageRow)
      → row_at rs lower (shift + p) ≡ x → Shows header h (e ∷ past) fs2 rs2 os2 upper p
  upper_shows p none less gets None gone =
      unmoved p (unmoved_away (nat_lt p up) (nat_lt (shift + p) low) (local header h (place_of lower (shift + p)) past).here
      (not (local header h (place_of upper p) past).here) (gone_is lower (shift + p) gone)) (gets ∙ (gone ∙ sym none))
  upper_shows p none less gets (Some row) found =
      let test = moved_all (nat_lt p up) (nat_lt (shift + p) low) (local header h (place_of lower (shift + p)) past).here
      (local header h (place_of upper p) past).here (less_test p up less) (less_test (shift + p) low (moves.inside (shift + p) row found))
      (here_is lower (shift + p) row found ∙ moves.here.below (shift + p) row found) (gone_is upper p none) in
      behind upper p (Moves (local header h (place_of lower (shift + p)) past)) (effect_upper upper lower shift up low p (places header h past)
      ∙ ap (λ b. if b then Moves (local header h (place_of lower (shift + p)) past) else Elsewhere) test)
      ∙ (moved_up p row none found ∙ now upper p (Some row) (gets ∙ found))

  -- a page of the lower goes, or had no row
  lower_gone : (p : ℕ) (b : Bool) → nat_lt p low ≡ b → (x : Option PageRow) → row_at rs lower p ≡ x
      → known_local header lower p (local_after header.size (if b then Drops else Elsewhere) (local header h (place_of lower p) past))
      ≡ local_of_row fs None (absent_at os lower p)
  lower_gone p true test None none = ap (λ (z : Local). local_without_page z) (away_is lower p none)
  lower_gone p true test (Some row) found =
      ap (λ (z : Local). local_without_page z) (moves.has lower p ∙ ap (λ z. local_of_row fs z (absent_at os lower p)) found)
      ∙ ap (λ b. record away { asked = not b; absent = absent_at os lower p }) (moves.here.below p row found)
  lower_gone p false test None none = away_is lower p none
  lower_gone p false test (Some row) found =
      absurd (let less = moves.inside p row found in let le = beyond_of p low test in omega (arith, less, le))

  lower_shows : (p : ℕ) → row_at rs2 lower p ≡ None → Shows header h (e ∷ past) fs2 rs2 os2 lower p
  lower_shows p none =
      behind lower p (if nat_lt p low then Drops else Elsewhere) (effect_lower upper lower shift up low p (places header h past) moves.apart)
      ∙ (lower_gone p (nat_lt p low) refl (row_at rs lower p) refl ∙ now lower p None none)

  all_shows : (o p : ℕ) → RowNow upper lower shift up rs rs2 o p → Shows header h (e ∷ past) fs2 rs2 os2 o p
  all_shows o p (IsOwn row same was found) =
      subst (λ (z : ℕ). Shows header h (e ∷ past) fs2 rs2 os2 z p) same
      (let own : row_at rs upper p ≡ Some row = ap (λ z. row_at rs z p) same ∙ was in
      unmoved p (unmoved_here (nat_lt p up) (nat_lt (shift + p) low) (local header h (place_of lower (shift + p)) past).here
      (local header h (place_of upper p) past).here (here_is upper p row own ∙ moves.here.above p row own))
      (ap (λ z. row_at rs2 z p) same ∙ (found ∙ sym own)))
  all_shows o p (IsMoved same none less gets) =
      subst (λ (z : ℕ). Shows header h (e ∷ past) fs2 rs2 os2 z p) same
      (upper_shows p (ap (λ z. row_at rs z p) same ∙ none) less (ap (λ z. row_at rs2 z p) same ∙ gets) (row_at rs lower (shift + p)) refl)
  all_shows o p (IsBeyond same none le found) =
      subst (λ (z : ℕ). Shows header h (e ∷ past) fs2 rs2 os2 z p) same
      (unmoved p (ap (λ b. b && (nat_lt (shift + p) low && ((local header h (place_of lower (shift + p)) past).here
      && not (local header h (place_of upper p) past).here))) (beyond_test p up le))
      (ap (λ z. row_at rs2 z p) same ∙ (found ∙ sym (ap (λ z. row_at rs z p) same ∙ none))))
  all_shows o p (IsGone above same found) =
      subst (λ (z : ℕ). Shows header h (e ∷ past) fs2 rs2 os2 z p) same (lower_shows p (ap (λ z. row_at rs2 z p) same ∙ found))
  all_shows o p (IsSame above below same) = stays o p (effect_else upper lower shift up low o p (places header h past) above below) same

  shows_all : (o p : ℕ) → Shows header h (e ∷ past) fs2 rs2 os2 o p
  shows_all o p = all_shows o p (row_now moves.rows o p)

-- what the event is to a place of the upper's home, by the tables
merged_effect : (header : Header) (h : ℕ) (past : List Event) (upper lower : ObjectId) (shift up low : ℕ) → object_home upper.0 past ≡ Some h
    → (backing_of header upper.0 past).shift ≡ shift → pages_made header upper.0 past ≡ up → pages_made header lower.0 past ≡ low
    → IsMerge header h (event.Merged upper lower) past upper.0 lower.0 shift up low
merged_effect header h past upper lower shift up low home link above below o p =
    ap (λ z. if is_on h z then whole (backing_of header upper.0 past).shift (pages_made header upper.0 past) (pages_made header lower.0 past) else Elsewhere)
    home
    ∙ (ap (λ b. if b then whole (backing_of header upper.0 past).shift (pages_made header upper.0 past) (pages_made header lower.0 past) else Elsewhere)
    (on_own h)
    ∙ (ap (λ n. whole n (pages_made header upper.0 past) (pages_made header lower.0 past)) link
    ∙ (ap (λ n. whole shift n (pages_made header lower.0 past)) above ∙ ap (λ n. whole shift up n) below)))
  where
    whole : ℕ → ℕ → ℕ → LocalEffect
    whole = λ n m k. merge_effect upper.0 lower.0 n m k (place_of o p) (places header h past)

pub table_effect : {copies : CopyTable} (header : Header) (h : ℕ) (past : List Event) (upper lower : ObjectId) (cs : ChainTable) (os : ObjectTable)
    {ids : Ids} {rm om marked : ℕ} (can : CanMerge copies cs os upper.0 lower.0)
    → HasRegions cs os ids (λ q. region_of header q past) (λ q. backing_of header q past) rm om marked → HasKinds header os cs → HaveHomes header past
    → KnowsPages (named header) os (λ o. pages_made header o past) → object_home upper.0 past ≡ Some h
    → IsMerge header h (event.Merged upper lower) past upper.0 lower.0 can.link.shift can.upper_row.pages can.lower_row.pages
table_effect header h past upper lower cs os can regions kinds homes knows home =
    merged_effect header h past upper lower can.link.shift can.upper_row.pages can.lower_row.pages home
    (ap (λ (z : Backing). z.shift) (regions.shadows upper.0 can.link can.over))
    (sym (knows.at upper.0 can.upper_row (shadow_temporary regions homes upper.0 can.link can.over) can.upper_known))
    (sym (knows.at lower.0 can.lower_row (lower_temporary kinds can) can.lower_known))

-- the pages of a host behind a merge
pub shown_merged : {copies : CopyTable} (header : Header) (h : ℕ) (past : List Event) (upper lower : ObjectId) (cs cs2 : ChainTable) (os os2 : ObjectTable)
    (rs rs2 : ResidentTable) (fs fs2 : FrameTable) {ids : Ids} {rm om marked : ℕ} (merges : MergesObjects upper.0 lower.0 cs cs2 copies os os2)
    → MergesRows upper.0 lower.0 merges.can.link.shift merges.can.upper_row.pages rs rs2 → KeepsBytes rs2 fs fs2
    → HasRegions cs os ids (λ q. region_of header q past) (λ q. backing_of header q past) rm om marked → HasKinds header os cs → HaveHomes header past
    → KnowsPages (named header) os (λ o. pages_made header o past) → object_home upper.0 past ≡ Some h → AreHere rs upper.0 lower.0
    → ((o p : ℕ) (row : PageRow) → row_at rs o p ≡ Some row → p < object_pages os o)
    → HasPages fs rs os (λ o p. known_local header o p (local header h (place_of o p) past))
    → HasPages fs2 rs2 os2 (λ o p. known_local header o p (local header h (place_of o p) (event.Merged upper lower ∷ past)))
shown_merged header h past upper lower cs cs2 os os2 rs rs2 fs fs2 merges moves bytes regions kinds homes knows home here inside has =
    record { shown = shows_all now_moves }
  where
    now_moves : MovesUp header h (event.Merged upper lower) past upper.0 lower.0 merges.can.link.shift merges.can.upper_row.pages merges.can.lower_row.pages
        os os2 rs rs2 fs fs2
    now_moves = record {
      is = table_effect header h past upper lower cs os merges.can regions kinds homes knows home;
      apart = merged_apart regions.ranked merges.can;
      rows = moves;
      bytes = bytes;
      marks = merges.marks;
      here = here;
      inside = λ p row found. subst (λ (z : ℕ). p < z) (ap pages_of_row merges.can.lower_known) (inside lower.0 p row found);
      has = has.shown;
    }
