pub mod FitSoFar
