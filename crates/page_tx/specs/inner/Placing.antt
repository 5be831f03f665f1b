-- Images of pages under their numbers, one of each page.
use Rattle.std.specs.Prelude.{◌==◌, ℕ, List, [], ◌∷◌, cond}
use Rattle.page_journal.specs.Layout.{Image}

-- the images with this one, in place of an older one of its page
abbrev pub with_image : ℕ → List ℕ → List Image → List Image
with_image n page [] = (n, page) ∷ []
with_image n page (image ∷ rest) = cond (image.0 == n) ((n, page) ∷ rest) (image ∷ with_image n page rest)

-- the images with these, one after another
abbrev pub with_images : List Image → List Image → List Image
with_images [] held = held
with_images (image ∷ rest) held = with_images rest (with_image image.0 image.1 held)
