-- A note has only one reading.
use Rattle.std.proofs.Common.{◌≡◌, ◌<◌, ℕ, ◌^◌, List, [], ◌∷◌, ◌++◌, slice_index, true, refl, sym, ◌∙◌, ap, arith}
use Rattle.std.specs.Int.{w64, to_be_bytes}
use Rattle.std.specs.Str.{bytes_eq}
use Rattle.std.proofs.lemmas.Slice.Eq.{bytes_eq-Decides}
use Rattle.route_model.specs.Octets.{number_at}
use Rattle.route_model.proofs.Numbers.{again_two}
use Rattle.archive_pages.specs.declared.settings.Settings.{Settings}
use Rattle.archive_pages.specs.Places.{AreSettings}
use Rattle.disk_archive.specs.Notes.{note_octets}

pub note_collectors : (blocks : ℕ) (s : Settings) → slice_index (note_octets blocks s) 8 ≡ s.collectors
unfolding note_octets
note_collectors blocks s = refl

pub note_ring : (blocks : ℕ) (s : Settings) → s.ring < 2 ^ 16 → number_at 2 9 (note_octets blocks s) ≡ s.ring
unfolding note_octets
note_ring blocks s lt =
    let front : List ℕ = to_be_bytes w64 blocks ++ s.collectors ∷ [] in
    again_two front [] s.ring lt

-- one note gives one choice of settings
pub one_settings : (blocks : ℕ) (s t : Settings) → AreSettings s → AreSettings t → note_octets blocks s ≡ note_octets blocks t → s ≡ t
one_settings blocks s t are those same =
    let c : s.collectors ≡ t.collectors = sym (note_collectors blocks s) ∙ ap (λ (l : List ℕ). slice_index l 8) same ∙ note_collectors blocks t in
    let few = are.large in
    let low = those.large in
    let r : s.ring ≡ t.ring = sym (note_ring blocks s (omega (arith, few))) ∙ ap (number_at 2 9) same ∙ note_ring blocks t (omega (arith, low)) in
    λ i. record { collectors = c i; ring = r i }

-- the numbers of a note are those of the settings that it gives
pub settings_read : (note : List ℕ) (blocks c r : ℕ) (s : Settings) → AreSettings s → note ≡ note_octets blocks s → slice_index note 8 ≡ c → number_at 2 9 note ≡ r → record { collectors = c; ring = r } ≡ s
settings_read note blocks c r s are reported collectors ring =
    let few = are.large in
    let a : c ≡ s.collectors = sym collectors ∙ ap (λ (l : List ℕ). slice_index l 8) reported ∙ note_collectors blocks s in
    let b : r ≡ s.ring = sym ring ∙ ap (number_at 2 9) reported ∙ note_ring blocks s (omega (arith, few)) in
    λ i. record { collectors = a i; ring = b i }

pub same_octets : (xs ys : List ℕ) → xs ≡ ys → bytes_eq xs ys ≡ true
same_octets xs ys e = (bytes_eq-Decides xs ys).1 e
