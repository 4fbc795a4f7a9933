-- The widest window in which no more jobs are released: it ends where the next one would be.
use Rattle.std.proofs.Common.{◌≡◌, ℕ, suc, ◌+◌, ◌-◌, ◌*◌, ◌/◌, ◌%◌, ◌<◌, ◌≤◌, min, sym, ap, ◌∙◌, arith}
use Rattle.std.specs.Int.{div_ceil}
use Rattle.std.proofs.lemmas.Grind.{div_ceil_times}
use Rattle.std.proofs.lemmas.Nat.{div-mul-add, mod-mul-add}
use Rattle.std.proofs.Math.Nat.{mul-le-mul_right}
use Rattle.cl_model.specs.declared.stimulus.StimulusKind.{StimulusKind, TheVariants.{Periodic, Sporadic, Burst}}
use Rattle.cl_stim.specs.Releases.{most_releases}

-- a product is that many times its factor, with nothing to round up
pub ceil_of_times : (n d : ℕ) → 1 ≤ d → div_ceil (n * d) d ≡ n
ceil_of_times n d some =
    let plus : n * d ≡ n * d + 0 = omega arith in
    let whole : n * d / d ≡ n = ap (λ x. x / d) plus ∙ div-mul-add n d 0 (omega (arith, some)) in
    let rest : n * d % d ≡ 0 = ap (λ x. x % d) plus ∙ mod-mul-add n d 0 (omega (arith, some)) in
    omega (arith, whole, rest)

-- a periodic stimulus releases no more up to the next release
pub periodic_as_many : (kind : StimulusKind) (period offset jitter width count : ℕ) → Periodic period offset jitter ≡ kind → 1 ≤ period
    → count ≡ most_releases kind width → most_releases kind (count * period - jitter) ≡ most_releases kind width
unfolding most_releases
periodic_as_many kind period offset jitter width count is some counted =
    let here : div_ceil (width + jitter) period ≡ most_releases kind width = ap (λ (k : StimulusKind). most_releases k width) is in
    let reach = (div_ceil_times (width + jitter) period some).0 in
    let times : count * period ≡ div_ceil (width + jitter) period * period = ap (λ n. n * period) (counted ∙ sym here) in
    let same : count * period - jitter + jitter ≡ div_ceil (width + jitter) period * period = omega (arith, reach, times) in
    sym (ap (λ (k : StimulusKind). most_releases k (count * period - jitter)) is)
    ∙ ap (λ n. div_ceil n period) same ∙ ceil_of_times (div_ceil (width + jitter) period) period some ∙ here

-- nor does a sporadic one
pub sporadic_as_many : (kind : StimulusKind) (least greatest width count : ℕ) → Sporadic least greatest ≡ kind → 1 ≤ least
    → count ≡ most_releases kind width → most_releases kind (count * least) ≡ most_releases kind width
unfolding most_releases
sporadic_as_many kind least greatest width count is some counted =
    sym (ap (λ (k : StimulusKind). most_releases k (count * least)) is) ∙ ceil_of_times count least some ∙ counted

-- and neither of them reaches less than the window
pub periodic_reaches : (kind : StimulusKind) (period offset jitter width count : ℕ) → Periodic period offset jitter ≡ kind → 1 ≤ period
    → count ≡ most_releases kind width → (width + jitter ≤ count * period) × (count * period < width + jitter + period)
unfolding most_releases
periodic_reaches kind period offset jitter width count is some counted =
    let here : div_ceil (width + jitter) period ≡ most_releases kind width = ap (λ (k : StimulusKind). most_releases k width) is in
    let times : count * period ≡ div_ceil (width + jitter) period * period = ap (λ n. n * period) (counted ∙ sym here) in
    (omega (arith, times, (div_ceil_times (width + jitter) period some).0), omega (arith, times, (div_ceil_times (width + jitter) period some).1))

pub sporadic_reaches : (kind : StimulusKind) (least greatest width count : ℕ) → Sporadic least greatest ≡ kind → 1 ≤ least
    → count ≡ most_releases kind width → (width ≤ count * least) × (count * least < width + least)
unfolding most_releases
sporadic_reaches kind least greatest width count is some counted =
    let here : div_ceil width least ≡ most_releases kind width = ap (λ (k : StimulusKind). most_releases k width) is in
    let times : count * least ≡ div_ceil width least * least = ap (λ n. n * least) (counted ∙ sym here) in
    (omega (arith, times, (div_ceil_times width least some).0), omega (arith, times, (div_ceil_times width least some).1))

-- nor does a stimulus in bursts: up to the next release of the burst, or, where all of it are released, up to the next
-- burst
module _ (kind : StimulusKind) (period offset count distance width released : ℕ) (is : Burst period offset count distance ≡ kind)
    (some : 1 ≤ distance) (fits : count * distance ≤ period) (counted : released ≡ div_ceil (width % period) distance) where
  pub burst_few : released < count → most_releases kind (width / period * period + released * distance) ≡ most_releases kind width
  unfolding most_releases
  burst_few few =
      let grows : suc released * distance ≤ count * distance = mul-le-mul_right distance few in
      let below : released * distance < period = omega (arith, grows, fits, some) in
      let whole = div-mul-add (width / period) period (released * distance) below in
      let rest = mod-mul-add (width / period) period (released * distance) below in
      let same : div_ceil ((width / period * period + released * distance) % period) distance ≡ div_ceil (width % period) distance =
      ap (λ n. div_ceil n distance) rest ∙ ceil_of_times released distance some ∙ counted in
      sym (ap (λ (k : StimulusKind). most_releases k (width / period * period + released * distance)) is)
      ∙ ap (λ n. n * count + min count (div_ceil ((width / period * period + released * distance) % period) distance)) whole
      ∙ ap (λ n. width / period * count + min count n) same
      ∙ ap (λ (k : StimulusKind). most_releases k width) is

  pub burst_all : 1 ≤ period → count ≤ released → most_releases kind (width / period * period + period) ≡ most_releases kind width
  unfolding most_releases
  burst_all some_period all =
      let next : width / period * period + period ≡ suc (width / period) * period + 0 = omega arith in
      let whole : (width / period * period + period) / period ≡ suc (width / period) =
      ap (λ n. n / period) next ∙ div-mul-add (suc (width / period)) period 0 (omega (arith, some_period)) in
      let rest : (width / period * period + period) % period ≡ 0 =
      ap (λ n. n % period) next ∙ mod-mul-add (suc (width / period)) period 0 (omega (arith, some_period)) in
      let nothing : 0 ≡ 0 * distance = omega arith in
      let none : div_ceil ((width / period * period + period) % period) distance ≡ 0 =
      ap (λ n. div_ceil n distance) (rest ∙ nothing) ∙ ceil_of_times 0 distance some in
      let more : (width / period * period + period) / period * count ≡ width / period * count + count = ap (λ n. n * count) whole ∙ omega arith in
      let sums : (width / period * period + period) / period * count + min count (div_ceil ((width / period * period + period) % period) distance)
      ≡ width / period * count + min count (div_ceil (width % period) distance) = omega (arith, more, none, all, counted) in
      sym (ap (λ (k : StimulusKind). most_releases k (width / period * period + period)) is) ∙ sums ∙ ap (λ (k : StimulusKind). most_releases k width) is
