-- The texts of plans, and those of the built-in words.
use Rattle.std.specs.Prelude.{◌≡◌, ◌<◌, ◌^◌, ℕ, [], None, All, IfSome}
use Rattle.gs_planfile.specs.declared.text.EdgeSpan.{EdgeSpan}
use Rattle.gs_planfile.specs.declared.text.PlanText.{PlanText}
use Rattle.gs_planfile.specs.declared.text.Shape.TheVariants.{Line}
use Rattle.gs_planfile.specs.declared.text.Version.TheVariants.{One, Two}

-- the text of the word base:n, a line of n nodes
abbrev pub base_text : ℕ → PlanText
base_text n = record {
  version = One;
  cluster = 7;
  shape = Line n;
  lo = 10000;
  hi = 10001;
  mu = 2000;
  tick = 100;
  delay_min = 2;
  delay_max = 12;
  every = 1;
  losses = 3;
  age = 412;
  kappa = None;
  levels = 4;
  port = 40000;
  spans = [];
}

-- a given kappa is below the end of clocks
abbrev pub KappaFits : EdgeSpan → Type 0
KappaFits span = IfSome span.kappa (λ kappa. kappa < 2 ^ 62)

-- a text that a file or a built-in word can say
pub record IsText (text : PlanText) : Type 0 where
  pub kappa : IfSome text.kappa (λ kappa. kappa < 2 ^ 62)
  pub kappas : All KappaFits text.spans
  pub spans : text.version ≡ One → text.spans ≡ []

-- the same text in version 2
abbrev pub newest : PlanText → PlanText
newest text = record text { version = Two }
