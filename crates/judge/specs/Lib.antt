pub mod Judge
