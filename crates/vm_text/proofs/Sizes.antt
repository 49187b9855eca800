-- A page size is one of the list of page sizes.
use Rattle.std.proofs.Common.{◌≡◌, ℕ, List, [], ◌∷◌, Ok, refl, sym, inl, inr}
use Rattle.vm_base.specs.Pages.{IsPageSize}
use Rattle.vm_text.specs.Words.{number_of}
use Rattle.vm_text.specs.Forms.{one_of, page_size}

sized : (n : ℕ) → IsPageSize n → one_of (16 ∷ 32 ∷ 64 ∷ 128 ∷ 256 ∷ 512 ∷ 1024 ∷ 2048 ∷ 4096 ∷ []) n ≡ Ok n
sized n (inl is) = rw is refl
sized n (inr (inl is)) = rw is refl
sized n (inr (inr (inl is))) = rw is refl
sized n (inr (inr (inr (inl is)))) = rw is refl
sized n (inr (inr (inr (inr (inl is))))) = rw is refl
sized n (inr (inr (inr (inr (inr (inl is)))))) = rw is refl
sized n (inr (inr (inr (inr (inr (inr (inl is))))))) = rw is refl
sized n (inr (inr (inr (inr (inr (inr (inr (inl is)))))))) = rw is refl
sized n (inr (inr (inr (inr (inr (inr (inr (inr is)))))))) = rw is refl

pub page_size_is : (word : List ℕ) (n size : ℕ) → number_of word ≡ Ok n → size ≡ n → IsPageSize n → Ok size ≡ page_size word
page_size_is word n size read same page = rw (same, read) (sym (sized n page))
