-- Files and areas that hold nothing are told, and told empty.
use Rattle.std.proofs.Common.{Bool, List, [], ap, false, refl, true, ℕ, zero, suc, ◌*◌, ◌∙◌, ◌∷◌, ◌≡◌, length}
use Rattle.std.specs.Prelude.{None, Some, if◌then◌else◌, is_some, not, unwrap_or, ◌&&◌, ◌||◌}
use Rattle.vm_legal.specs.Outside.{Told as FilesTold, Untold, is_file_kind}
use Rattle.vm_model.specs.declared.script.Declared.{Declared}
use Rattle.vm_model.specs.declared.script.Header.{Header}
use Rattle.vm_outside.specs.Areas.{Told, read_at}
use Rattle.pg_file.specs.Stands.{name_of}
use Rattle.pg_slots.specs.Contents.{area_name}
use Rattle.vm_top.specs.Run.{are_told, areas_told, is_told, outside_of, told_of}
use Rattle.vm_lens.specs.Exploring.{IsFresh}

-- or anything that is true
or_true : (b : Bool) → (b || true) ≡ true
or_true true = refl
or_true false = refl

object_told : (areas : List ℕ → Told) → ((name : List ℕ) → areas name ≡ Some None) → (object : Declared) → is_told areas object ≡ true
object_told areas none object = ap (λ z. not (is_file_kind object.kind) || is_some z) (none object.name) ∙ or_true (not (is_file_kind object.kind))

all_told : (areas : List ℕ → Told) → ((name : List ℕ) → areas name ≡ Some None) → (objects : List Declared) → are_told areas objects ≡ true
all_told areas none [] = refl
all_told areas none (object ∷ objects) = ap (λ z. z && are_told areas objects) (object_told areas none object) ∙ all_told areas none objects

each_told : (areas : List ℕ → Told) → ((name : List ℕ) → areas name ≡ Some None) → (hosts : ℕ) → areas_told areas hosts ≡ true
each_told areas none zero = refl
each_told areas none (suc host) = ap (λ z. z && is_some (areas (area_name host))) (each_told areas none host) ∙ ap is_some (none (area_name host))

-- what is told of files and areas that hold nothing
pub told_empty : (files paging : List ℕ → Told) (header : Header) → ((name : List ℕ) → files name ≡ Some None) → ((name : List ℕ) → paging name ≡ Some None)
    → IsFresh header (outside_of files paging header)
told_empty files paging header none no_area =
    let pages : ℕ → ℕ → List ℕ = λ object page. read_at (unwrap_or (told_of (files (name_of header object))) []) (page * header.size) header.size in
    record {
      pages = pages;
      files = ap (λ z. if z then FilesTold pages else Untold) (all_told files none header.objects.items);
      empty = λ object page. ap (λ z. read_at (unwrap_or (told_of z) []) (page * header.size) header.size) (none (name_of header object));
      paging = each_told paging no_area (length header.frames.items);
    }
